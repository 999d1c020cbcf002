-- A key of a web socket.
use Rattle.std.proofs.Common.{◌≡◌, ℕ, Bool, List, ◌++◌, length, take, drop, refl, sym, ◌∙◌, ap, subst}
use Rattle.std.proofs.Common.{codes, take-append-drop}
use Rattle.std.specs.Prelude.{IsTrue, ◌↔◌}
use Rattle.std.specs.Bool.{Decides}
use Rattle.std.specs.List.{list_all}
use Rattle.std.proofs.lemmas.List.{take_at, drop_at}
use Rattle.std.proofs.lemmas.Bool.Decides.{Decides-by_and}
use Rattle.httparse.specs.Grammar.{AllPass}
use Rattle.mud_web.specs.Upgrade.{is_symbol, IsKey}

all_decides : (bs : List ℕ) → Decides (list_all is_symbol bs) (AllPass is_symbol bs)
all_decides bs =
    Decides-by_and is_symbol (λ (b : ℕ). IsTrue (is_symbol b)) (list_all is_symbol) (λ b. (λ h. h, λ h. h)) refl
    (λ _ _. refl) bs

pub key_decides : (key front back : List ℕ) (r : Bool) → front ≡ take 22 key → back ≡ drop 22 key → length front ≡ 22
    → back ≡ codes "==" → r ≡ list_all is_symbol front → IsTrue r ↔ IsKey key
key_decides key front back r front_at back_at len padding is = (
  λ yes. (
    front,
    len,
    (all_decides front).0 (sym is ∙ yes),
    sym (take-append-drop 22 key) ∙ (ap (λ (xs : List ℕ). xs ++ drop 22 key) (sym front_at)
        ∙ ap (λ (xs : List ℕ). front ++ xs) (sym back_at ∙ padding)),
  ),
  λ form.
      let same : form.0 ≡ front = sym (take_at form.0 (codes "==") 22 form.1)
      ∙ (ap (take 22) (sym form.3) ∙ sym front_at) in
      is ∙ (all_decides front).1 (subst (AllPass is_symbol) same form.2),
)

pub other_padding : (key back : List ℕ) → back ≡ drop 22 key → ¬ (back ≡ codes "==") → ¬ (IsKey key)
other_padding key back back_at other (symbols, len, all, is) =
    other (back_at ∙ (ap (drop 22) is ∙ drop_at symbols (codes "==") 22 len))
