use Rattle.std.proofs.Common.{ap, sym, ◌∙◌, subst}
use Rattle.mud_key.specs.inner.NamesTexts.{IsNamesText, IsNoNamesText}
use Rattle.mud_key.specs.Names.{texts_of}
use Rattle.mud_key.specs.inner.NameReader.{next_of, names_of, stand_of}
use Rattle.mud_key.proofs.NamesSound.{names_sound}
use Rattle.mud_key.proofs.NamesTaken.{refused_names, unsettled_names, name_run_more, name_run_end, are_names}
use Rattle.mud_key.proofs.names.Names.read_text.Goals as goal

-- ---- a byte is rejected

pub returns-in-None : goal.returns-in-None
returns-in-None c = record {
  reads = subst (λ t. IsNoNamesText t) c.as_bytes-byte-items.ensures.value
      (refused_names c.as_bytes-byte-items.result.now c.loop-byte.byte-index 0
      (stand_of c.loop-byte.reader) c.loop-byte-test.true c.loop-byte.invariant
      (sym c.in_ok-next.ensures ∙ ap next_of c.in-None.is));
}

pub loop-byte-preserved : goal.loop-byte-preserved
loop-byte-preserved c =
    name_run_more c.as_bytes-byte-items.result.now c.loop-byte.byte-index 0
    (stand_of c.loop-byte.reader) _ c.loop-byte-test.true c.loop-byte.invariant
    (ap next_of (sym c.in-Some.is) ∙ c.in_ok-next.ensures)

-- ---- the names are complete

pub shared-requires : goal.shared-requires
shared-requires c =
    are_names c.as_bytes-byte-items.result.now _
    (names_sound c.as_bytes-byte-items.result.now (stand_of c.loop-byte.reader) (texts_of c.in-Some-2.texts)
    (name_run_end c.as_bytes-byte-items.result.now c.loop-byte.byte-index _ c.loop-byte-test.false
    c.loop-byte.invariant)
    (sym c.in_ok-texts.ensures ∙ ap names_of c.in-Some-2.is))

pub returns-in_ok-shared-in-Some-2 : goal.returns-in_ok-shared-in-Some-2
returns-in_ok-shared-in-Some-2 c = record {
  reads = subst (IsNamesText c.args.text.now) (sym c.in_ok-shared-in-Some-2.ensures)
      (subst (λ t. IsNamesText t (texts_of c.in-Some-2.texts)) c.as_bytes-byte-items.ensures.value
      (names_sound c.as_bytes-byte-items.result.now (stand_of c.loop-byte.reader) (texts_of c.in-Some-2.texts)
      (name_run_end c.as_bytes-byte-items.result.now c.loop-byte.byte-index _ c.loop-byte-test.false
      c.loop-byte.invariant)
      (sym c.in_ok-texts.ensures ∙ ap names_of c.in-Some-2.is)));
}

-- ---- the text does not end with a name

pub returns-in-None-2 : goal.returns-in-None-2
returns-in-None-2 c = record {
  reads = subst (λ t. IsNoNamesText t) c.as_bytes-byte-items.ensures.value
      (unsettled_names c.as_bytes-byte-items.result.now (stand_of c.loop-byte.reader)
      (name_run_end c.as_bytes-byte-items.result.now c.loop-byte.byte-index _ c.loop-byte-test.false
      c.loop-byte.invariant)
      (sym c.in_ok-texts.ensures ∙ ap names_of c.in-None-2.is));
}
