use Rattle.std.proofs.Common.{◌++◌, ap, ◌∙◌}
use Rattle.std.specs.Prelude.{string_bytes, codes}
use Rattle.std.specs.Fmt.{decimal}
use Rattle.mud_survey.specs.Json.{array, stranded_json}
use Rattle.mud_survey.proofs.Writing.{onto}
use Rattle.mud_survey.proofs.json.json_text.Goals as goal

pub returns : goal.returns
returns c =
    let s = c.args.survey.now in
    let a1 = codes "{\"version\":" in
    let a2 = a1 ++ decimal c.args.version in
    let n3 = codes ",\"players\":" in
    let v3 = array decimal c.args.players.now in
    let t2 = string_bytes c.write.new.self in
    let t3 = string_bytes c.push_numbers.new.out in
    let e1 = c.in_ok-push_str.ensures.bytes ∙ ap (λ l. l ++ a1) c.new-out.ensures.bytes in
    let e2 = c.in_ok-write.ensures.bytes ∙ ap (λ l. l ++ decimal c.args.version) e1 in
    let e3 = onto t2 a2 n3 v3 t3 e2 c.in_ok-push_numbers.ensures in
    let a3 = a2 ++ n3 ++ v3 in
    let n4 = codes ",\"rooms\":" in
    let v4 = array decimal s.rooms.items in
    let t4 = string_bytes c.push_numbers-2.new.out in
    let e4 = onto t3 a3 n4 v4 t4 e3
    (c.in_ok-push_numbers-2.ensures ∙ ap (λ l. t3 ++ (n4 ++ array decimal l)) c.deref.ensures.value) in
    let a4 = a3 ++ n4 ++ v4 in
    let n5 = codes ",\"exits\":" in
    let v5 = array decimal s.exits.items in
    let t5 = string_bytes c.push_numbers-3.new.out in
    let e5 = onto t4 a4 n5 v5 t5 e4
    (c.in_ok-push_numbers-3.ensures ∙ ap (λ l. t4 ++ (n5 ++ array decimal l)) c.deref-2.ensures.value) in
    let a5 = a4 ++ n5 ++ v5 in
    let n6 = codes ",\"one_way\":" in
    let v6 = array decimal s.one_way.items in
    let t6 = string_bytes c.push_numbers-4.new.out in
    let e6 = onto t5 a5 n6 v6 t6 e5
    (c.in_ok-push_numbers-4.ensures ∙ ap (λ l. t5 ++ (n6 ++ array decimal l)) c.deref-3.ensures.value) in
    let a6 = a5 ++ n6 ++ v6 in
    let n7 = codes ",\"no_way_back\":" in
    let v7 = array stranded_json s.no_way_back.items in
    let t7 = string_bytes c.push_all_stranded.new.out in
    let e7 = onto t6 a6 n7 v7 t7 e6
    (c.in_ok-push_all_stranded.ensures ∙ ap (λ l. t6 ++ (n7 ++ array stranded_json l)) c.deref-4.ensures.value) in
    let a7 = a6 ++ n7 ++ v7 in
    let n8 = codes ",\"keys\":" in
    let v8 = array decimal s.keys.items in
    let t8 = string_bytes c.push_numbers-5.new.out in
    let e8 = onto t7 a7 n8 v8 t8 e7
    (c.in_ok-push_numbers-5.ensures ∙ ap (λ l. t7 ++ (n8 ++ array decimal l)) c.deref-5.ensures.value) in
    let a8 = a7 ++ n8 ++ v8 in
    let n9 = codes ",\"things\":" in
    let v9 = array decimal s.things.items in
    let t9 = string_bytes c.push_numbers-6.new.out in
    let e9 = onto t8 a8 n9 v9 t9 e8
    (c.in_ok-push_numbers-6.ensures ∙ ap (λ l. t8 ++ (n9 ++ array decimal l)) c.deref-6.ensures.value) in
    let a9 = a8 ++ n9 ++ v9 in
    c.in_ok-push_str-2.ensures.bytes ∙ ap (λ l. l ++ codes "}\n") e9
