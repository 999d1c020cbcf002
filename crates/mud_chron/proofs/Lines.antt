-- The entry found in a line is the only one that may have it.
use Rattle.std.proofs.Common.{◌≡◌, ℕ, zero, suc, ◌<◌, true, List, [], ◌∷◌, arith, ltb, get_or}
use Rattle.std.specs.Prelude.{not, ◌^◌}
use Rattle.std.specs.List.{list_all}
use Rattle.std.specs.Str.{IsUtf8}
use Rattle.std.proofs.lemmas.Str.{IsUtf8-from_ascii}
use Rattle.std.proofs.lemmas.Bool.{and_parts, ltb-false}
use Rattle.mud_key.specs.declared.codes.TheConstants.{SPACE, TILDE}
use Rattle.mud_chron.specs.Entry.{Entry, IsEntry}
use Rattle.mud_chron.specs.Text.{entry_line}
use Rattle.mud_chron.proofs.Cutting.{not_true}
use Rattle.mud_chron.proofs.Spelled.{plain}
use Rattle.std.proofs.Common.{Option, Some, None, Result, Ok, Err, refl, sym, ap, ◌∙◌}
use Rattle.mud_chron.specs.declared.fields.Unread.{Unread}
use Rattle.mud_chron.specs.declared.fields.Unread.TheVariants.{OutOfMemory, NoEntry}
use Rattle.mud_chron.specs.inner.Fields.{Finds}
use Rattle.mud_chron.specs.inner.Reader.{Tells, entry_in}
use Rattle.mud_chron.proofs.Again.{plain_line, entry_again}

ascii : (text : List ℕ) → list_all plain text ≡ true → (i : ℕ) → get_or text i 0 < 128
ascii [] h i = omega arith
ascii (b ∷ text) h zero =
    let p = and_parts (not (ltb b SPACE)) (not (ltb TILDE b)) (and_parts (plain b) (list_all plain text) h).0 in
    omega (arith, ltb-false TILDE b (not_true (ltb TILDE b) p.1))
ascii (b ∷ text) h (suc i) = ascii text (and_parts (plain b) (list_all plain text) h).1 i

pub utf8_line : (version : ℕ) (e : Entry) → version < 2 ^ 64 → IsEntry e → IsUtf8 (entry_line version e)
utf8_line version e fits is =
    IsUtf8-from_ascii (entry_line version e) (λ i. ascii (entry_line version e) (plain_line version e fits is) i)

-- the entry found in the text is the one with that line
pub entry-found : (r : Result Entry Unread) (line : List ℕ) (version : ℕ) (e : Entry) → Tells (λ x. x) r (entry_in line)
    → version < 2 ^ 64 → IsEntry e → line ≡ entry_line version e → Finds (λ x. x ≡ e) r
entry-found (Ok x) line version e h fits is same =
    let both : ◌≡◌ {A = Option Entry} (Some x) (Some e) = sym h ∙ ap entry_in same ∙ entry_again version e fits is in cc
entry-found (Err OutOfMemory) line version e h fits is same = refl
entry-found (Err NoEntry) line version e h fits is same =
    let bad : ◌≡◌ {A = Option Entry} None (Some e) = sym h ∙ ap entry_in same ∙ entry_again version e fits is in
    absurd (cc)
