use Rattle.std.proofs.Common.{◌∙◌, None, Some, ap, cond, map}
use Rattle.std.specs.Prelude.{bytes_eq, string_bytes}
use Rattle.std.specs.List.{list_any}
use Rattle.std.specs.Str.{str_to_ascii_lowercase}
use Rattle.mud_index.specs.Owners.{owner_of, is_lower_of}
use Rattle.mud_index.specs.inner.Texts.{items_of}
use Rattle.mud_index.specs.inner.Views.{seen_of}
use Rattle.mud_index.proofs.Texts.{any-map}
use Rattle.mud_index.proofs.owners.Owners.pass.Goals as goal

pub returns-clause-ok : goal.returns-clause-ok
returns-clause-ok c = λ t.
    let olds = map string_bytes c.args.old.now in
    let news = map string_bytes c.args.new.now in
    let before = owner_of c.args.self.now t in
    c.put_each.ensures t
    ∙ ap (λ v. cond (list_any (bytes_eq t) v) (Some c.args.owner) (owner_of (seen_of c.drop_each.new.owners.entries) t))
    c.in_ok-come.ensures
    ∙ ap (λ b. cond b (Some c.args.owner) (owner_of (seen_of c.drop_each.new.owners.entries) t))
    (any-map (bytes_eq t) str_to_ascii_lowercase news)
    ∙ ap (λ v. cond (is_lower_of news t) (Some c.args.owner) v)
    (c.drop_each.ensures.owners t
    ∙ ap (λ v. cond (list_any (bytes_eq t) (items_of v)) None (owner_of (seen_of c.reserve.new.self.entries) t))
    c.deref.ensures.value
    ∙ ap (λ v. cond (list_any (bytes_eq t) v) None (owner_of (seen_of c.reserve.new.self.entries) t))
    c.in_ok-gone.ensures
    ∙ ap (λ b. cond b None (owner_of (seen_of c.reserve.new.self.entries) t))
    (any-map (bytes_eq t) str_to_ascii_lowercase olds)
    ∙ ap (λ v. cond (is_lower_of olds t) None (owner_of (seen_of v) t)) c.reserve.ensures.entries
    ∙ ap (λ v. cond (is_lower_of olds t) None (owner_of v t)) c.self.view_is)
