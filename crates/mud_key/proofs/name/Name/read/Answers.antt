use Rattle.std.proofs.Common.{◌≡◌, subst, sym, ap, ◌∙◌, Ok, Err, true}
use Rattle.mud_key.specs.declared.names.NamesFault.TheVariants.{BadName}
use Rattle.mud_key.specs.Name.{IsName}
use Rattle.mud_key.specs.inner.NamesTexts.{is_only}
use Rattle.mud_key.proofs.Found.{names_read, name_found, not_read, alone_name, not_alone}
use Rattle.mud_key.proofs.Found.{name_law}
use Rattle.mud_key.proofs.name.Name.read.Goals as goal

pub returns-in-Err : goal.returns-in-Err
returns-in-Err c = record {
  finds = name_found c.args.text.now (Err c.in-Err.fault)
      (not_read c.args.text.now c.in-Err.fault
      (names_read c.args.text.now (Err c.in-Err.fault) c.in-Err.ensures.finds));
}

pub invariant_of-result : goal.invariant_of-result
invariant_of-result c =
    let alone : is_only c.args.text.now c.in-Ok.names ≡ true =
    ap (is_only c.args.text.now) (sym c.list.ensures.list) ∙ sym c.is_only.ensures ∙ c.if-is_only.true in
    subst IsName (sym c.in_ok-from_str.ensures.ok)
    (alone_name c.args.text.now c.in-Ok.names
    (names_read c.args.text.now (Ok c.in-Ok.names) c.in-Ok.ensures.finds) alone)

pub returns-then-is_only : goal.returns-then-is_only
returns-then-is_only c =
    let alone : is_only c.args.text.now c.in-Ok.names ≡ true =
    ap (is_only c.args.text.now) (sym c.list.ensures.list) ∙ sym c.is_only.ensures ∙ c.if-is_only.true in
    let names = names_read c.args.text.now (Ok c.in-Ok.names) c.in-Ok.ensures.finds in
    record {
      finds = (name_law c.args.text.now c.in_ok-from_str.field-0.bytes.items).1
          (c.in_ok-from_str.ensures.ok, alone_name c.args.text.now c.in-Ok.names names alone);
    }

pub returns : goal.returns
returns c =
    let names = names_read c.args.text.now (Ok c.in-Ok.names) c.in-Ok.ensures.finds in
    record {
      finds = name_found c.args.text.now (Err BadName)
          (not_alone c.args.text.now c.in-Ok.names names
          (ap (is_only c.args.text.now) (sym c.list.ensures.list) ∙ sym c.is_only.ensures ∙ c.if-is_only.false));
    }
