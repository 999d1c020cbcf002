-- Lists, object by object.
use Rattle.std.proofs.Common.{◌≡◌, ℕ, ◌+◌, ◌<◌, Bool, true, false, List, [], ◌∷◌, ◌++◌, length, drop, get_or, refl, ap}
use Rattle.std.proofs.Common.{◌∙◌, append_assoc, None}
use Rattle.std.specs.Prelude.{cond, filter, not, codes}
use Rattle.std.proofs.lemmas.List.{at_drop_more}
use Rattle.mud_world.specs.State.{State, is_number}
use Rattle.mud_rules.specs.ObjectLists.{entry_text, object_list, listed_under}
use Rattle.mud_rules.specs.inner.ObjectLists.{listed_after}

after_first : (lead : List ℕ) (w : State) (n : ℕ) (ns : List ℕ)
    → listed_after lead w (n ∷ ns) ≡ lead ++ (entry_text w n ++ listed_after (codes ", ") w ns)
after_first lead w n [] = refl
after_first lead w n (m ∷ ns) = refl

-- the next number of a list, which passes the test or does not
module _ (test : ℕ → Bool) (lead : List ℕ) (w : State) (numbers : List ℕ) (i : ℕ) (lt : i < length numbers) where
  step : (passes : Bool) → test (get_or numbers i 0) ≡ passes
      → listed_after lead w (filter test (drop i numbers))
      ≡ listed_after lead w (cond passes (get_or numbers i 0 ∷ filter test (drop (i + 1) numbers))
      (filter test (drop (i + 1) numbers)))
  step passes is =
      at_drop_more (λ ns. listed_after lead w (filter test ns)) numbers i 0 lt
      ∙ ap (λ b. listed_after lead w (cond b (get_or numbers i 0 ∷ filter test (drop (i + 1) numbers))
      (filter test (drop (i + 1) numbers)))) is

  pub list_one : test (get_or numbers i 0) ≡ true
      → listed_after lead w (filter test (drop i numbers))
      ≡ lead ++ (entry_text w (get_or numbers i 0)
      ++ listed_after (codes ", ") w (filter test (drop (i + 1) numbers)))
  list_one is = step true is ∙ after_first lead w (get_or numbers i 0) (filter test (drop (i + 1) numbers))

  pub list_past : test (get_or numbers i 0) ≡ false
      → listed_after lead w (filter test (drop i numbers))
      ≡ listed_after lead w (filter test (drop (i + 1) numbers))
  list_past is = step false is

pub joined_one : (text lead entry rest led text_after : List ℕ) → led ≡ text ++ lead → text_after ≡ led ++ entry
    → text_after ++ rest ≡ text ++ (lead ++ (entry ++ rest))
joined_one text lead entry rest led text_after is_led is_after = rw (is_after, is_led) (simp append_assoc)

-- without a player all are listed
all_others : (ns : List ℕ) → filter (λ o. not (is_number o None)) ns ≡ ns
all_others [] = refl
all_others (n ∷ ns) = ap (λ others. n ∷ others) (all_others ns)

exits_under : (w : State) (ns : List ℕ) → listed_after (codes "\n  exits ") w ns ≡ listed_under w (codes "exits ") ns
exits_under w [] = refl
exits_under w (n ∷ ns) = refl

pub exits_shown : (w : State) (ns : List ℕ)
    → listed_after (codes "\n  exits ") w (filter (λ o. not (is_number o None)) ns) ≡ listed_under w (codes "exits ") ns
exits_shown w ns = ap (listed_after (codes "\n  exits ") w) (all_others ns) ∙ exits_under w ns

pub contents_shown : (w : State) (ns : List ℕ)
    → listed_after (codes "\n  contents ") w ns ≡ listed_under w (codes "contents ") ns
contents_shown w [] = refl
contents_shown w (n ∷ ns) = refl

listed_alone : (w : State) (ns : List ℕ) → listed_after [] w ns ≡ object_list w ns
listed_alone w [] = refl
listed_alone w (n ∷ ns) = refl

pub all_shown : (w : State) (ns : List ℕ)
    → listed_after [] w (filter (λ o. not (is_number o None)) ns) ≡ object_list w ns
all_shown w ns = ap (listed_after [] w) (all_others ns) ∙ listed_alone w ns
