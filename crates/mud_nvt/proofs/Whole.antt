-- Feeding bytes one at a time gives the units of all bytes.
use Rattle.std.proofs.Common.{ℕ, ◌≡◌, refl, ap, sym, ◌∙◌, false, List, [], ◌∷◌, ◌++◌, Option, Some, None, append_assoc}
use Rattle.std.proofs.Common.{take, drop, ◌+◌}
use Rattle.std.proofs.Math.Seq.{take-add}
use Rattle.mud_nvt.specs.declared.telnet.Piece.{Piece}
use Rattle.mud_nvt.specs.declared.telnet.Position.TheVariants.{Between}
use Rattle.mud_nvt.specs.Units.{Given, units}
use Rattle.mud_nvt.specs.History.{TakesIn}
use Rattle.mud_nvt.specs.Held.{Held}
use Rattle.mud_nvt.specs.inner.Machine.{start, next, next_place, finished_piece, after_piece, piece_units}
use Rattle.mud_nvt.specs.inner.Machine.{run, run_units}
use Rattle.mud_nvt.proofs.Cutting.{put, scan, pieces_is}
use Rattle.mud_nvt.proofs.Typing.{walk, walk_is}

one_piece : (h : Held) (o : Option Piece) (ps : List Piece)
    → piece_units h o ++ walk (after_piece h o).after_cr (after_piece h o).too_long (after_piece h o).text ps
    ≡ walk h.after_cr h.too_long h.text (put o ps)
one_piece h None ps = refl
one_piece h (Some p) ps = refl

run_units_is : (bytes : List ℕ) (h : Held) → run_units h bytes ≡ walk h.after_cr h.too_long h.text (scan h.place bytes)
run_units_is [] h = refl
run_units_is (b ∷ bytes) h =
    rw (run_units_is bytes (next h b)) (one_piece h (finished_piece h.place b) (scan (next_place h.place b) bytes))

pub units_is : (bytes : List ℕ) → units bytes ≡ run_units start bytes
units_is bytes =
    rw pieces_is
    (walk_is (scan Between bytes) [] false false [] (record { long_is = refl; text_is = λ _. refl })
    ∙ sym (run_units_is bytes start))

pub run-append : (bytes more : List ℕ) (h : Held) → run h (bytes ++ more) ≡ run (run h bytes) more
run-append [] more h = refl
run-append (b ∷ bytes) more h = run-append bytes more (next h b)

pub run_units-append : (bytes more : List ℕ) (h : Held)
    → run_units h (bytes ++ more) ≡ run_units h bytes ++ run_units (run h bytes) more
run_units-append [] more h = refl
run_units-append (b ∷ bytes) more h = rw (run_units-append bytes more (next h b), append_assoc) refl

-- the units of two lists of bytes are those of the first list, and those that the second list gives from the state in
-- between
pub units-append : (bytes more : List ℕ) → units (bytes ++ more) ≡ units bytes ++ run_units (run start bytes) more
units-append bytes more = rw (units_is (bytes ++ more), units_is bytes) (run_units-append bytes more start)

pub takes_in : (old new : Held) (before after : List Given) (bytes : List ℕ) → new ≡ run old bytes
    → after ≡ before ++ run_units old bytes → TakesIn old new before after bytes
takes_in old new before after bytes n a = record {
  stands = λ earlier s. record { is = n ∙ (ap (λ h. run h bytes) s.is ∙ sym (run-append earlier bytes start)) };
  grows = λ earlier s.
      (run_units old bytes, a, units-append earlier bytes ∙ ap (λ h. units earlier ++ run_units h bytes) (sym s.is));
}

-- the state after the bytes consumed next
pub more_state : (h g n : Held) (bytes : List ℕ) (i k : ℕ) → g ≡ run h (take i bytes)
    → n ≡ run g (take k (drop i bytes)) → n ≡ run h (take (i + k) bytes)
more_state h g n bytes i k e f =
    rw (take-add i k bytes)
    (f
    ∙ (ap (λ s. run s (take k (drop i bytes))) e ∙ sym (run-append (take i bytes) (take k (drop i bytes)) h)))

pub more_given : (h g : Held) (old mid new : List Given) (bytes : List ℕ) (i k : ℕ) → g ≡ run h (take i bytes)
    → mid ≡ old ++ run_units h (take i bytes) → new ≡ mid ++ run_units g (take k (drop i bytes))
    → new ≡ old ++ run_units h (take (i + k) bytes)
more_given h g old mid new bytes i k e m n =
    rw (
      take-add i k bytes,
      run_units-append (take i bytes)
          (take k (drop i bytes)) h,
      ← e,
      n,
      m,
      append_assoc,
    ) refl
