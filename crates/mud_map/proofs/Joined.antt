-- The five parts of a node and of an edge, concatenated.
use Rattle.std.proofs.Common.{◌≡◌, ℕ, List, ◌++◌, ◌∙◌, refl, ap, append_assoc, codes}
use Rattle.std.specs.Fmt.{decimal}
use Rattle.mud_world.specs.declared.record.Passage.{Passage}
use Rattle.mud_world.specs.declared.record.Record.{Record}
use Rattle.mud_map.specs.Map.{Drawing, label_part, room_text, exit_text, lock_text, meeting_text, walk_text, ends_text}
use Rattle.mud_map.specs.Map.{node_text, edge_text}

-- one more part
next : (old text part before after : List ℕ) → before ≡ old ++ text → after ≡ before ++ part
    → after ≡ old ++ (text ++ part)
next old text part before after is more = more ∙ ap (λ v. v ++ part) is ∙ append_assoc old text part

joined : (old a b c d e to_a to_b to_c to_d : List ℕ) → to_a ≡ old ++ a → to_b ≡ to_a ++ b → to_c ≡ to_b ++ c
    → to_d ≡ to_c ++ d → to_d ++ e ≡ old ++ (a ++ b ++ c ++ d ++ e)
joined old a b c d e to_a to_b to_c to_d is_a is_b is_c is_d =
    let two = next old a b to_a to_b is_a is_b in
    let three = next old (a ++ b) c to_b to_c two is_c in
    let four = next old (a ++ b ++ c) d to_c to_d three is_d in
    next old (a ++ b ++ c ++ d) e to_d (to_d ++ e) four refl

pub node_joined : (d : Drawing) (n : ℕ) (r : Record) (old to_a label to_b to_c to_d : List ℕ)
    → to_a ≡ old ++ decimal n → label ≡ room_text d.accounts n r → to_b ≡ to_a ++ label_part label
    → to_c ≡ to_b ++ lock_text r.key → to_d ≡ to_c ++ meeting_text d.meeting n
    → to_d ++ codes "];\n" ≡ old ++ node_text d n r
node_joined d n r old to_a label to_b to_c to_d is_a is is_b is_c is_d =
    joined old (decimal n) (label_part (room_text d.accounts n r)) (lock_text r.key) (meeting_text d.meeting n)
    (codes "];\n") to_a to_b to_c to_d is_a (is_b ∙ ap (λ v. to_a ++ label_part v) is) is_c is_d

pub edge_joined : (d : Drawing) (n : ℕ) (r : Record) (p : Passage) (old to_a label to_b to_c to_d : List ℕ)
    → to_a ≡ old ++ ends_text p → label ≡ exit_text n r p → to_b ≡ to_a ++ label_part label
    → to_c ≡ to_b ++ lock_text r.key → to_d ≡ to_c ++ walk_text d.accounts n
    → to_d ++ codes "];\n" ≡ old ++ edge_text d n r p
edge_joined d n r p old to_a label to_b to_c to_d is_a is is_b is_c is_d =
    joined old (ends_text p) (label_part (exit_text n r p)) (lock_text r.key) (walk_text d.accounts n)
    (codes "];\n") to_a to_b to_c to_d is_a (is_b ∙ ap (λ v. to_a ++ label_part v) is) is_c is_d
