-- The strokes of all bytes, found byte by byte.
use Rattle.std.proofs.Common.{ℕ, ◌≡◌, refl, ap, sym, ◌∙◌, List, [], ◌∷◌, ◌++◌, Option, Some, None, append_assoc}
use Rattle.std.proofs.Common.{append-nil, IsTrue}
use Rattle.std.specs.List.{list_any}
use Rattle.mud_nvt.specs.declared.telnet.Piece.{Piece}
use Rattle.mud_nvt.specs.declared.strokes.Stroke.{Stroke}
use Rattle.mud_nvt.specs.Telnet.{pieces}
use Rattle.mud_nvt.specs.Strokes.{strokes}
use Rattle.mud_nvt.specs.Held.{Held}
use Rattle.mud_nvt.specs.inner.Machine.{start, next, next_place, finished_piece, after_piece, piece_strokes}
use Rattle.mud_nvt.specs.inner.Machine.{byte_strokes, run}
use Rattle.mud_nvt.specs.Memory.{takes_memory, StopsBefore}
use Rattle.mud_nvt.proofs.Cutting.{put, scan, pieces_is}
use Rattle.mud_nvt.proofs.Typing.{strokes_behind}
use Rattle.mud_nvt.proofs.Whole.{run-append}

-- the strokes of these bytes, from this state
abbrev run_strokes : Held → List ℕ → List Stroke
run_strokes h [] = []
run_strokes h (b ∷ bytes) = byte_strokes h b ++ run_strokes (next h b) bytes

one_stroke : (h : Held) (o : Option Piece) (ps : List Piece)
    → strokes_behind h.after_cr (put o ps) ≡ piece_strokes h o ++ strokes_behind (after_piece h o).after_cr ps
one_stroke h None ps = refl
one_stroke h (Some p) ps = refl

run_strokes_is : (bytes : List ℕ) (h : Held) → strokes_behind h.after_cr (scan h.place bytes) ≡ run_strokes h bytes
run_strokes_is [] h = refl
run_strokes_is (b ∷ bytes) h =
    one_stroke h (finished_piece h.place b) (scan (next_place h.place b) bytes)
    ∙ ap (λ ss. byte_strokes h b ++ ss) (run_strokes_is bytes (next h b))

strokes_is : (bytes : List ℕ) → strokes (pieces bytes) ≡ run_strokes start bytes
strokes_is bytes = rw pieces_is (run_strokes_is bytes start)

run_strokes-append : (bytes more : List ℕ) (h : Held)
    → run_strokes h (bytes ++ more) ≡ run_strokes h bytes ++ run_strokes (run h bytes) more
run_strokes-append [] more h = refl
run_strokes-append (b ∷ bytes) more h = rw (run_strokes-append bytes more (next h b), append_assoc) refl

-- one more byte adds its stroke in the state before it
strokes_more : (bytes : List ℕ) (b : ℕ)
    → strokes (pieces (bytes ++ b ∷ [])) ≡ strokes (pieces bytes) ++ byte_strokes (run start bytes) b
strokes_more bytes b =
    rw (strokes_is (bytes ++ b ∷ []), strokes_is bytes, run_strokes-append bytes (b ∷ []) start, append-nil) refl

pub stops_before : (old held : Held) (bytes : List ℕ) (b : ℕ) → held ≡ run old bytes
    → IsTrue (list_any takes_memory (byte_strokes held b)) → StopsBefore old bytes b
stops_before old held bytes b e n = record {
  here = λ earlier s.
      let there : held ≡ run start (earlier ++ bytes) =
      e ∙ (ap (λ h. run h bytes) s.is ∙ sym (run-append earlier bytes start)) in
      (byte_strokes held b, rw there (strokes_more (earlier ++ bytes) b), n);
}
