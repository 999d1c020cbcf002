-- The words of a line are those of the grammar.
use Rattle.std.proofs.Common.{◌≡◌, ◌≢◌, ℕ, Bool, true, false, not, eqb, List, [], ◌∷◌, ◌++◌, codes, None, refl, sym, ap}
use Rattle.std.proofs.Common.{◌∙◌, ◌⊎◌, append_assoc, arith, inl, inr}
use Rattle.std.specs.List.{slice_split, position_or_len}
use Rattle.std.proofs.lemmas.List.{append-nil}
use Rattle.std.proofs.lemmas.Bool.{cases_eq}
use Rattle.std.proofs.lemmas.Bool.Decides.{nat_tests}
use Rattle.mud_words.specs.declared.codes.TheConstants.{SPACE, QUOTE, BACKSLASH}
use Rattle.mud_words.specs.Words.{plain_words, after_first_word}
use Rattle.mud_words.specs.inner.Pieces.{pieces_from, is_gap}
use Rattle.mud_words.specs.inner.Cuts.{goes_on}
use Rattle.mud_words.specs.Grammar.{SpellsQuoted, SpellsRun, SpellsWord, SpellsOpen, SpellsLast, HasWords}
use Rattle.mud_words.specs.Grammar as grammar
use Rattle.mud_words.proofs.PieceLemmas.{from_gap, drop-past_one}
use Rattle.mud_words.proofs.CuttingLemmas.{onto, first, more_mark, mark}

-- the words of a text that continues this word, with these flags
abbrev goes : List ℕ → Bool → Bool → List ℕ → List (List ℕ)
goes v quoted escaped text = goes_on v (slice_split is_gap (pieces_from quoted escaped text))

other : (b c : ℕ) → b ≢ c → eqb b c ≡ false
other b c differs = elim (cases_eq b c) [ inl same ↦ absurd (differs same) | inr _ ↦ grind (arith, nat_tests) ]

-- a plain byte, outside and inside quotes
pub plain_goes : (v : List ℕ) (b : ℕ) (rest : List ℕ) → b ≢ SPACE → b ≢ QUOTE → b ≢ BACKSLASH
    → goes v false false (b ∷ rest) ≡ goes (v ++ b ∷ []) false false rest
plain_goes v b rest space quote slash =
    rw (other b SPACE space, other b QUOTE quote, other b BACKSLASH slash)
    (onto v b (slice_split is_gap (pieces_from false false rest)))

pub plain_begins : (b : ℕ) (rest : List ℕ) → b ≢ SPACE → b ≢ QUOTE → b ≢ BACKSLASH
    → plain_words (b ∷ rest) ≡ goes (b ∷ []) false false rest
plain_begins b rest space quote slash =
    rw (other b SPACE space, other b QUOTE quote, other b BACKSLASH slash)
    (first b (slice_split is_gap (pieces_from false false rest)))

byte_goes : (v : List ℕ) (b : ℕ) (rest : List ℕ) → b ≢ QUOTE → b ≢ BACKSLASH
    → goes v true false (b ∷ rest) ≡ goes (v ++ b ∷ []) true false rest
byte_goes v b rest quote slash =
    rw (other b QUOTE quote, other b BACKSLASH slash) (onto v b (slice_split is_gap (pieces_from true false rest)))

-- a backslash and the byte after it
slash_goes : (v : List ℕ) (inside : Bool) (b : ℕ) (rest : List ℕ)
    → goes v inside false (BACKSLASH ∷ b ∷ rest) ≡ goes (v ++ b ∷ []) inside false rest
slash_goes v inside b rest =
    more_mark v (slice_split is_gap (pieces_from inside true (b ∷ rest)))
    ∙ onto v b (slice_split is_gap (pieces_from inside false rest))

-- ---- all words of the grammar are found
between : {x text : List ℕ} → SpellsQuoted x text → (v rest : List ℕ)
    → goes v true false (x ++ rest) ≡ goes (v ++ text) true false rest
between grammar.nothing v rest = ap (λ l. goes l true false rest) (sym (append-nil v))
between (grammar.byte {b} {x} {text} quote slash q) v rest =
    byte_goes v b (x ++ rest) quote slash ∙ between q (v ++ b ∷ []) rest
    ∙ ap (λ l. goes l true false rest) (append_assoc v (b ∷ []) text)
between (grammar.guarded {b} {x} {text} q) v rest =
    slash_goes v true b (x ++ rest) ∙ between q (v ++ b ∷ []) rest
    ∙ ap (λ l. goes l true false rest) (append_assoc v (b ∷ []) text)

in_quotes : {x text : List ℕ} → SpellsQuoted x text → (v rest : List ℕ)
    → goes v false false (QUOTE ∷ ((x ++ QUOTE ∷ []) ++ rest)) ≡ goes (v ++ text) false false rest
in_quotes {x} {text} q v rest =
    more_mark v (slice_split is_gap (pieces_from true false ((x ++ QUOTE ∷ []) ++ rest)))
    ∙ ap (goes v true false) (append_assoc x (QUOTE ∷ []) rest)
    ∙ between q v (QUOTE ∷ rest)
    ∙ more_mark (v ++ text) (slice_split is_gap (pieces_from false false rest))

run_goes : {x text : List ℕ} → SpellsRun x text → (v rest : List ℕ)
    → goes v false false (x ++ rest) ≡ goes (v ++ text) false false rest
run_goes (grammar.plain {b} space quote slash) v rest = plain_goes v b rest space quote slash
run_goes (grammar.escaped {b}) v rest = slash_goes v false b rest
run_goes (grammar.quoted q) v rest = in_quotes q v rest

run_begins : {x text : List ℕ} → SpellsRun x text → (rest : List ℕ)
    → plain_words (x ++ rest) ≡ goes text false false rest
run_begins (grammar.plain {b} space quote slash) rest = plain_begins b rest space quote slash
run_begins (grammar.escaped {b}) rest =
    mark None (pieces_from false true (b ∷ rest)) ∙ onto [] b (slice_split is_gap (pieces_from false false rest))
run_begins (grammar.quoted {x} q) rest =
    mark None (pieces_from true false ((x ++ QUOTE ∷ []) ++ rest))
    ∙ sym (more_mark [] (slice_split is_gap (pieces_from true false ((x ++ QUOTE ∷ []) ++ rest))))
    ∙ in_quotes q [] rest

word_begins : {x w : List ℕ} → SpellsWord x w → (rest : List ℕ) → plain_words (x ++ rest) ≡ goes w false false rest
word_begins (grammar.one run) rest = run_begins run rest
word_begins (grammar.more {x} {v} {y} word run) rest =
    ap plain_words (append_assoc x y rest) ∙ word_begins word (y ++ rest) ∙ run_goes run v rest

-- the end of the line ends the word
ended : (v : List ℕ) → goes v false false [] ≡ v ∷ []
ended v = ap (λ (l : List ℕ). l ∷ []) (append-nil v)

open_goes : {x text : List ℕ} → SpellsOpen x text → (v : List ℕ) → goes v false false x ≡ (v ++ text) ∷ []
open_goes grammar.backslash v = refl
open_goes (grammar.quote {x} {text} q) v =
    more_mark v (slice_split is_gap (pieces_from true false x))
    ∙ ap (goes v true false) (sym (append-nil x))
    ∙ between q v []
    ∙ ended (v ++ text)
open_goes (grammar.quote_backslash {x} {text} q) v =
    more_mark v (slice_split is_gap (pieces_from true false (x ++ BACKSLASH ∷ [])))
    ∙ between q v (BACKSLASH ∷ [])
    ∙ ended (v ++ text)

open_begins : {x text : List ℕ} → SpellsOpen x text → plain_words x ≡ goes [] false false x
open_begins grammar.backslash = refl
open_begins (grammar.quote {x} q) =
    mark None (pieces_from true false x) ∙ sym (more_mark [] (slice_split is_gap (pieces_from true false x)))
open_begins (grammar.quote_backslash {x} q) =
    mark None (pieces_from true false (x ++ BACKSLASH ∷ []))
    ∙ sym (more_mark [] (slice_split is_gap (pieces_from true false (x ++ BACKSLASH ∷ []))))

last_found : {x w : List ℕ} → SpellsLast x w → plain_words x ≡ w ∷ []
last_found (grammar.whole {x} {w} word) = ap plain_words (sym (append-nil x)) ∙ word_begins word [] ∙ ended w
last_found (grammar.unclosed rest) = open_begins rest ∙ open_goes rest []
last_found (grammar.word_unclosed {x} {v} {y} word rest) = word_begins word y ∙ open_goes rest v

pub found : {line : List ℕ} {ws : List (List ℕ)} → HasWords line ws → plain_words line ≡ ws
found grammar.none = refl
found (grammar.space line) = found line
found (grammar.word {x} {w} {y} {ws} word line) =
    ap plain_words (append_assoc x (SPACE ∷ []) y) ∙ word_begins word (SPACE ∷ y)
    ∙ ap (λ (l : List ℕ). l ∷ plain_words y) (append-nil w) ∙ ap (λ (l : List (List ℕ)). w ∷ l) (found line)
found (grammar.last word) = last_found word

-- ---- the grammar allows all words that are found
line_is : {x y : List ℕ} {us vs : List (List ℕ)} → x ≡ y → us ≡ vs → HasWords y vs → HasWords x us
line_is same_text same_words line = rw (same_text, same_words) line

-- the part of a word before a run: nothing, or runs
data Front : List ℕ → List ℕ → Type 0 where
  bare : Front [] []
  runs : {x v : List ℕ} → SpellsWord x v → Front x v

with_run : {x v y w : List ℕ} → Front x v → SpellsRun y w → SpellsWord (x ++ y) (v ++ w)
with_run bare run = grammar.one run
with_run (runs word) run = grammar.more word run

with_open : {x v y w : List ℕ} → Front x v → SpellsOpen y w → HasWords (x ++ y) ((v ++ w) ∷ [])
with_open bare rest = grammar.last (grammar.unclosed rest)
with_open (runs word) rest = grammar.last (grammar.word_unclosed word rest)

with_quoted : {x v y w : List ℕ} → SpellsQuoted x v → SpellsQuoted y w → SpellsQuoted (x ++ y) (v ++ w)
with_quoted grammar.nothing more = more
with_quoted (grammar.byte quote slash q) more = grammar.byte quote slash (with_quoted q more)
with_quoted (grammar.guarded q) more = grammar.guarded (with_quoted q more)

-- the lines that end in this text, by the state in which the text begins: at the start of a line, in a word, after a
-- backslash, between quotes, or after a backslash between quotes
record Reads (text : List ℕ) : Type 0 where
  starts : HasWords text (plain_words text)
  in_word : {x w : List ℕ} → SpellsWord x w → HasWords (x ++ text) (goes w false false text)
  behind_slash : {x v : List ℕ} → Front x v → HasWords (x ++ BACKSLASH ∷ text) (goes v false true text)
  quoted : {x v y w : List ℕ} → Front x v → SpellsQuoted y w
      → HasWords (x ++ QUOTE ∷ (y ++ text)) (goes (v ++ w) true false text)
  quoted_behind_slash : {x v y w : List ℕ} → Front x v → SpellsQuoted y w
      → HasWords (x ++ QUOTE ∷ (y ++ BACKSLASH ∷ text)) (goes (v ++ w) true true text)

reads_nothing : Reads []
reads_nothing = record {
  starts = grammar.none;
  in_word = λ {x} {w} word. line_is (append-nil x) (ended w) (grammar.last (grammar.whole word));
  behind_slash = λ {x} {v} front. with_open front grammar.backslash;
  quoted = λ {x} {v} {y} {w} front q.
      line_is (ap (λ l. x ++ QUOTE ∷ l) (append-nil y)) (ended (v ++ w)) (with_open front (grammar.quote q));
  quoted_behind_slash =
      λ {x} {v} {y} {w} front q. line_is refl (ended (v ++ w)) (with_open front (grammar.quote_backslash q));
}

abbrev Splits : ℕ → ℕ → Type 0
Splits b c = (b ≡ c) ⊎ (b ≢ c)

-- a byte at the start of a line
start_with : (b : ℕ) (rest : List ℕ) → Splits b SPACE → Splits b QUOTE → Splits b BACKSLASH → Reads rest
    → HasWords (b ∷ rest) (plain_words (b ∷ rest))
start_with b rest (inl space) quote slash reads = rw space (grammar.space reads.starts)
start_with b rest (inr space) (inl quote) slash reads =
    rw quote (line_is refl (mark None (pieces_from true false rest)) (reads.quoted bare grammar.nothing))
start_with b rest (inr space) (inr quote) (inl slash) reads =
    rw slash (line_is refl (mark None (pieces_from false true rest)) (reads.behind_slash bare))
start_with b rest (inr space) (inr quote) (inr slash) reads =
    line_is refl (plain_begins b rest space quote slash) (reads.in_word (grammar.one (grammar.plain space quote slash)))

-- a byte in a word
go_on_with : (b : ℕ) (rest : List ℕ) {x w : List ℕ} → Splits b SPACE → Splits b QUOTE → Splits b BACKSLASH → Reads rest
    → SpellsWord x w → HasWords (x ++ b ∷ rest) (goes w false false (b ∷ rest))
go_on_with b rest {x} {w} (inl space) quote slash reads word =
    rw space (line_is (sym (append_assoc x (SPACE ∷ []) rest))
    (ap (λ (l : List ℕ). l ∷ plain_words rest) (append-nil w)) (grammar.word word reads.starts))
go_on_with b rest {x} {w} (inr space) (inl quote) slash reads word =
    rw quote (line_is refl
    (more_mark w (slice_split is_gap (pieces_from true false rest))
    ∙ ap (λ l. goes l true false rest) (sym (append-nil w))) (reads.quoted (runs word) grammar.nothing))
go_on_with b rest {x} {w} (inr space) (inr quote) (inl slash) reads word =
    rw slash (line_is refl (more_mark w (slice_split is_gap (pieces_from false true rest)))
    (reads.behind_slash (runs word)))
go_on_with b rest {x} {w} (inr space) (inr quote) (inr slash) reads word =
    line_is (sym (append_assoc x (b ∷ []) rest)) (plain_goes w b rest space quote slash)
    (reads.in_word (grammar.more word (grammar.plain space quote slash)))

-- a byte after a backslash in a word
slash_with : (b : ℕ) (rest : List ℕ) {x v : List ℕ} → Reads rest → Front x v
    → HasWords (x ++ BACKSLASH ∷ b ∷ rest) (goes v false true (b ∷ rest))
slash_with b rest {x} {v} reads front =
    line_is (sym (append_assoc x (BACKSLASH ∷ b ∷ []) rest))
    (onto v b (slice_split is_gap (pieces_from false false rest)))
    (reads.in_word (with_run front (grammar.escaped {b = b})))

-- the beginning of a line, and an open quote with a text in it
quote_assoc : (x y z rest : List ℕ) → x ++ QUOTE ∷ (y ++ (z ++ rest)) ≡ x ++ QUOTE ∷ ((y ++ z) ++ rest)
quote_assoc x y z rest = ap (λ l. x ++ QUOTE ∷ l) (sym (append_assoc y z rest))

-- a byte between quotes
quote_with : (b : ℕ) (rest : List ℕ) {x v y w : List ℕ} → Splits b QUOTE → Splits b BACKSLASH → Reads rest → Front x v
    → SpellsQuoted y w → HasWords (x ++ QUOTE ∷ (y ++ b ∷ rest)) (goes (v ++ w) true false (b ∷ rest))
quote_with b rest {x} {v} {y} {w} (inl quote) slash reads front q =
    rw quote
    (line_is (quote_assoc x y (QUOTE ∷ []) rest ∙ sym (append_assoc x (QUOTE ∷ (y ++ QUOTE ∷ [])) rest))
    (more_mark (v ++ w) (slice_split is_gap (pieces_from false false rest)))
    (reads.in_word (with_run front (grammar.quoted q))))
quote_with b rest {x} {v} {y} {w} (inr quote) (inl slash) reads front q =
    rw slash (line_is refl (more_mark (v ++ w) (slice_split is_gap (pieces_from true true rest)))
    (reads.quoted_behind_slash front q))
quote_with b rest {x} {v} {y} {w} (inr quote) (inr slash) reads front q =
    line_is (quote_assoc x y (b ∷ []) rest)
    (byte_goes (v ++ w) b rest quote slash ∙ ap (λ l. goes l true false rest) (append_assoc v w (b ∷ [])))
    (reads.quoted front (with_quoted q (grammar.byte quote slash grammar.nothing)))

-- a byte after a backslash between quotes
quote_slash_with : (b : ℕ) (rest : List ℕ) {x v y w : List ℕ} → Reads rest → Front x v → SpellsQuoted y w
    → HasWords (x ++ QUOTE ∷ (y ++ BACKSLASH ∷ b ∷ rest)) (goes (v ++ w) true true (b ∷ rest))
quote_slash_with b rest {x} {v} {y} {w} reads front q =
    line_is (quote_assoc x y (BACKSLASH ∷ b ∷ []) rest)
    (onto (v ++ w) b (slice_split is_gap (pieces_from true false rest))
    ∙ ap (λ l. goes l true false rest) (append_assoc v w (b ∷ [])))
    (reads.quoted front (with_quoted q (grammar.guarded {b = b} grammar.nothing)))

reads_byte : (b : ℕ) (rest : List ℕ) → Splits b SPACE → Splits b QUOTE → Splits b BACKSLASH → Reads rest
    → Reads (b ∷ rest)
reads_byte b rest space quote slash reads = record {
  starts = start_with b rest space quote slash reads;
  in_word = λ {x} {w} word. go_on_with b rest space quote slash reads word;
  behind_slash = λ {x} {v} front. slash_with b rest reads front;
  quoted = λ {x} {v} {y} {w} front q. quote_with b rest quote slash reads front q;
  quoted_behind_slash = λ {x} {v} {y} {w} front q. quote_slash_with b rest reads front q;
}

reads_text : (text : List ℕ) → Reads text
reads_text [] = reads_nothing
reads_text (b ∷ rest) = reads_byte b rest (cases_eq b SPACE) (cases_eq b QUOTE) (cases_eq b BACKSLASH) (reads_text rest)

pub spelled : (line : List ℕ) (ws : List (List ℕ)) → plain_words line ≡ ws → HasWords line ws
spelled line ws same = line_is refl (sym same) (reads_text line).starts

-- ---- the rest after the first word
-- the text after the first gap, with these flags
abbrev behind : Bool → Bool → List ℕ → List ℕ
behind quoted escaped text = from_gap (pieces_from quoted escaped text) text

behind_plain : (b : ℕ) (rest : List ℕ) → b ≢ SPACE → b ≢ QUOTE → b ≢ BACKSLASH
    → behind false false (b ∷ rest) ≡ behind false false rest
behind_plain b rest space quote slash =
    rw (other b SPACE space, other b QUOTE quote, other b BACKSLASH slash)
    (drop-past_one (position_or_len is_gap (pieces_from false false rest)) b rest)

behind_byte : (b : ℕ) (rest : List ℕ) → b ≢ QUOTE → b ≢ BACKSLASH
    → behind true false (b ∷ rest) ≡ behind true false rest
behind_byte b rest quote slash =
    rw (other b QUOTE quote, other b BACKSLASH slash)
    (drop-past_one (position_or_len is_gap (pieces_from true false rest)) b rest)

behind_slash_byte : (inside : Bool) (b : ℕ) (rest : List ℕ)
    → behind inside false (BACKSLASH ∷ b ∷ rest) ≡ behind inside false rest
behind_slash_byte inside b rest =
    drop-past_one (position_or_len is_gap (pieces_from inside true (b ∷ rest))) BACKSLASH (b ∷ rest)
    ∙ drop-past_one (position_or_len is_gap (pieces_from inside false rest)) b rest

behind_quote : (inside : Bool) (rest : List ℕ) → behind inside false (QUOTE ∷ rest) ≡ behind (not inside) false rest
behind_quote inside rest = drop-past_one (position_or_len is_gap (pieces_from (not inside) false rest)) QUOTE rest

behind_between : {x text : List ℕ} → SpellsQuoted x text → (rest : List ℕ)
    → behind true false (x ++ rest) ≡ behind true false rest
behind_between grammar.nothing rest = refl
behind_between (grammar.byte {b} {x} quote slash q) rest = behind_byte b (x ++ rest) quote slash ∙ behind_between q rest
behind_between (grammar.guarded {b} {x} q) rest = behind_slash_byte true b (x ++ rest) ∙ behind_between q rest

behind_run : {x text : List ℕ} → SpellsRun x text → (rest : List ℕ)
    → behind false false (x ++ rest) ≡ behind false false rest
behind_run (grammar.plain {b} space quote slash) rest = behind_plain b rest space quote slash
behind_run (grammar.escaped {b}) rest = behind_slash_byte false b rest
behind_run (grammar.quoted {x} q) rest =
    behind_quote false ((x ++ QUOTE ∷ []) ++ rest)
    ∙ ap (behind true false) (append_assoc x (QUOTE ∷ []) rest)
    ∙ behind_between q (QUOTE ∷ rest)
    ∙ behind_quote true rest

behind_word : {x w : List ℕ} → SpellsWord x w → (rest : List ℕ)
    → behind false false (x ++ rest) ≡ behind false false rest
behind_word (grammar.one run) rest = behind_run run rest
behind_word (grammar.more {x} {v} {y} word run) rest =
    ap (behind false false) (append_assoc x y rest) ∙ behind_word word (y ++ rest) ∙ behind_run run rest

behind_open : {x w : List ℕ} → SpellsOpen x w → behind false false x ≡ []
behind_open grammar.backslash = refl
behind_open (grammar.quote {x} q) =
    behind_quote false x ∙ ap (behind true false) (sym (append-nil x)) ∙ behind_between q []
behind_open (grammar.quote_backslash {x} q) =
    behind_quote false (x ++ BACKSLASH ∷ []) ∙ behind_between q (BACKSLASH ∷ [])

pub behind_last : {x w : List ℕ} → SpellsLast x w → after_first_word x ≡ []
behind_last (grammar.whole {x} word) = ap (behind false false) (sym (append-nil x)) ∙ behind_word word []
behind_last (grammar.unclosed rest) = behind_open rest
behind_last (grammar.word_unclosed {x} {v} {y} word rest) = behind_word word y ∙ behind_open rest

pub behind_first : {x w : List ℕ} → SpellsWord x w → (rest : List ℕ) → after_first_word (x ++ codes " " ++ rest) ≡ rest
behind_first {x} word rest =
    ap (behind false false) (append_assoc x (SPACE ∷ []) rest) ∙ behind_word word (SPACE ∷ rest)
