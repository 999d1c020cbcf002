-- The text of a history, written piece by piece.
use Rattle.std.proofs.Common.{◌≡◌, ◌≤◌, ℕ, ◌+◌, List, [], ◌++◌, length, take, drop, Option, codes, refl, sym, ap, ◌∙◌}
use Rattle.std.proofs.Common.{subst}
use Rattle.std.proofs.Common.{append_assoc}
use Rattle.std.proofs.lemmas.List.{append-nil, drop_all, take_at, take-append-drop}
use Rattle.std.proofs.KnownBytes.{Appends-nil, Appends-trans}
use Rattle.std.specs.Io.KnownBytes.{Appends}
use Rattle.mud_chron.specs.Entry.{Entry}
use Rattle.mud_chron.specs.inner.Texts.{written_text}
use Rattle.mud_chron.specs.Text.{entries_text, end_line, line_feed}
use Rattle.mud_row.specs.Known.{lines_after}

-- a part of the text is written; a piece and the rest follow
pub record IsOnWay (held now_held : Option (List ℕ)) (text piece rest : List ℕ) : Type 0 where
  pub done : List ℕ
  pub written : Appends held now_held done
  pub whole : done ++ (piece ++ rest) ≡ text

-- the text after the lines of the first n entries
abbrev pub left : ℕ → List Entry → List ℕ
left n h = lines_after n h ++ (end_line (length h) ++ line_feed)

pub begun : (held : Option (List ℕ)) (h : List Entry) (piece : List ℕ) → piece ≡ codes "mud history 2\n"
    → IsOnWay held held (written_text h) piece (left 0 h)
begun held h piece is =
    record { done = []; written = Appends-nil held; whole = ap (λ (p : List ℕ). p ++ left 0 h) is }

-- a line is appended to the piece
pub line_added : (held now_held : Option (List ℕ)) (h : List Entry) (n : ℕ) (piece more : List ℕ)
    → IsOnWay held now_held (written_text h) piece (left n h)
    → more ++ lines_after (n + 1) h ≡ piece ++ lines_after n h
    → IsOnWay held now_held (written_text h) more (left (n + 1) h)
line_added held now_held h n piece more way is =
    let end : List ℕ = end_line (length h) ++ line_feed in
    let whole : more ++ left (n + 1) h ≡ piece ++ left n h =
    sym (append_assoc more (lines_after (n + 1) h) end) ∙ ap (λ (t : List ℕ). t ++ end) is
    ∙ append_assoc piece (lines_after n h) end in
    record {
      done = way.done;
      written = way.written;
      whole = ap (λ (t : List ℕ). way.done ++ t) whole ∙ way.whole;
    }

-- likewise for an equal history
pub line_at : (held now_held : Option (List ℕ)) (same h : List Entry) (n : ℕ) (piece more : List ℕ) → same ≡ h
    → IsOnWay held now_held (written_text h) piece (left n h)
    → more ++ lines_after (n + 1) same ≡ piece ++ lines_after n same
    → IsOnWay held now_held (written_text h) more (left (n + 1) h)
line_at held now_held same h n piece more is way line =
    line_added held now_held h n piece more way
    (subst (λ (l : List Entry). more ++ lines_after (n + 1) l ≡ piece ++ lines_after n l) is line)

-- the piece was written
pub piece_written : (held mid now_held : Option (List ℕ)) (text piece empty rest : List ℕ)
    → IsOnWay held mid text piece rest → Appends mid now_held piece → empty ≡ []
    → IsOnWay held now_held text empty rest
piece_written held mid now_held text piece empty rest way one none = record {
  done = way.done ++ piece;
  written = Appends-trans held mid now_held way.done piece way.written one;
  whole = ap (λ (t : List ℕ). (way.done ++ piece) ++ (t ++ rest)) none ∙ append_assoc way.done piece rest ∙ way.whole;
}

-- all lines are done, and the last one is appended to the piece
pub end_added : (held now_held : Option (List ℕ)) (h : List Entry) (n count : ℕ) (piece more : List ℕ)
    → IsOnWay held now_held (written_text h) piece (left n h) → length h ≤ n → count ≡ length h
    → more ≡ piece ++ end_line count ++ line_feed → IsOnWay held now_held (written_text h) more []
end_added held now_held h n count piece more way past same is =
    let end : List ℕ = end_line (length h) ++ line_feed in
    let none : lines_after n h ≡ [] = ap (entries_text (n + 1)) (drop_all n h past) in
    let whole : more ++ [] ≡ piece ++ left n h =
    append-nil more ∙ is ∙ append_assoc piece (end_line count) line_feed
    ∙ ap (λ (k : ℕ). piece ++ (end_line k ++ line_feed)) same
    ∙ ap (λ (t : List ℕ). piece ++ (t ++ end)) (sym none) in
    record {
      done = way.done;
      written = way.written;
      whole = ap (λ (t : List ℕ). way.done ++ t) whole ∙ way.whole;
    }

-- nothing more is written
pub stopped : (held now_held : Option (List ℕ)) (text piece rest : List ℕ) → IsOnWay held now_held text piece rest
    → (n : ℕ) × Appends held now_held (take n text)
stopped held now_held text piece rest way =
    let front : way.done ≡ take (length way.done) text =
    sym (take_at way.done (piece ++ rest) (length way.done) refl) ∙ ap (take (length way.done)) way.whole in
    (length way.done, subst (Appends held now_held) front way.written)

-- a prefix of the piece is written, and nothing more
pub cut : (held mid now_held : Option (List ℕ)) (text piece rest : List ℕ) (m : ℕ) → IsOnWay held mid text piece rest
    → Appends mid now_held (take m piece) → (n : ℕ) × Appends held now_held (take n text)
cut held mid now_held text piece rest m way one =
    let behind : List ℕ = drop m piece ++ rest in
    let same : take m piece ++ behind ≡ piece ++ rest =
    sym (append_assoc (take m piece) (drop m piece) rest)
    ∙ ap (λ (t : List ℕ). t ++ rest) (take-append-drop m piece) in
    stopped held now_held text [] behind (record {
      done = way.done ++ take m piece;
      written = Appends-trans held mid now_held way.done (take m piece) way.written one;
      whole = append_assoc way.done (take m piece) behind ∙ ap (λ (t : List ℕ). way.done ++ t) same ∙ way.whole;
    })

-- the last piece was written
pub ended : (held mid now_held : Option (List ℕ)) (text piece : List ℕ) → IsOnWay held mid text piece []
    → Appends mid now_held piece → Appends held now_held text
ended held mid now_held text piece way one =
    subst (Appends held now_held) (ap (λ (t : List ℕ). way.done ++ t) (sym (append-nil piece)) ∙ way.whole)
    (Appends-trans held mid now_held way.done piece way.written one)
