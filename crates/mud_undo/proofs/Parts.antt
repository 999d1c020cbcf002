-- A history without what is chosen, with one entry more.
use Rattle.std.proofs.Common.{◌≡◌, ℕ, ◌+◌, ◌<◌, List, [], ◌∷◌, ◌++◌, length, take, get_or, sym, ◌∙◌, ap}
use Rattle.std.proofs.Common.{arith, append_assoc}
use Rattle.std.proofs.lemmas.List.{append-nil, take_more, length-take-le}
use Rattle.mud_world.specs.Opening.{opening_state}
use Rattle.mud_chron.specs.Entry.{Entry}
use Rattle.mud_undo.specs.declared.choice.Choice.{Choice}
use Rattle.mud_undo.specs.Without.{count_made, part_of, parts_of, without}
use Rattle.mud_undo.proofs.Numbers.{number_after}

parts-push : (choice : Choice) (version next : ℕ) (es : List Entry) (e : Entry)
    → parts_of choice version next (es ++ e ∷ [])
    ≡ parts_of choice version next es ++ part_of choice (version + length es) (number_after next es) e
parts-push choice version next [] e =
    append-nil (part_of choice version next e)
    ∙ ap (λ v. part_of choice v next e) (let same : version ≡ version + length {A = Entry} [] = omega arith in same)
parts-push choice version next (d ∷ es) e =
    let made : ℕ = count_made d.change.deed in
    ap (λ l. part_of choice version next d ++ l) (parts-push choice (version + 1) (next + made) es e)
    ∙ sym (append_assoc (part_of choice version next d) (parts_of choice (version + 1) (next + made) es)
    (part_of choice (version + 1 + length es) (number_after (next + made) es) e))
    ∙ ap (λ v. (part_of choice version next d ++ parts_of choice (version + 1) (next + made) es)
    ++ part_of choice v (number_after (next + made) es) e)
    (let same : version + 1 + length es ≡ version + length (d ∷ es) = omega arith in same)

-- without what is chosen, one entry more
pub without-more : (choice : Choice) (es : List Entry) (i : ℕ) (d : Entry) → i < length es
    → without choice (take (i + 1) es)
    ≡ without choice (take i es)
    ++ part_of choice (i + 1) (number_after opening_state.next (take i es)) (get_or es i d)
without-more choice es i d less =
    ap (without choice) (take_more es i d less)
    ∙ parts-push choice 1 opening_state.next (take i es) (get_or es i d)
    ∙ ap (λ v. without choice (take i es)
    ++ part_of choice v (number_after opening_state.next (take i es)) (get_or es i d))
    (let long = length-take-le i es (omega arith) in
    let same : 1 + length (take i es) ≡ i + 1 = omega (arith, long) in same)

-- one entry more, in terms of the code's values
pub more-at : (choice : Choice) (es : List Entry) (i : ℕ) (e : Entry) (next : ℕ) (built : List Entry) → i < length es
    → built ≡ without choice (take i es) → next ≡ number_after opening_state.next (take i es) → e ≡ get_or es i e
    → without choice (take (i + 1) es) ≡ built ++ part_of choice (i + 1) next e
more-at choice es i e next built less is number at =
    without-more choice es i e less
    ∙ ap (λ n. without choice (take i es) ++ part_of choice (i + 1) n (get_or es i e)) (sym number)
    ∙ ap (λ d. without choice (take i es) ++ part_of choice (i + 1) next d) (sym at)
    ∙ ap (λ l. l ++ part_of choice (i + 1) next e) (sym is)
