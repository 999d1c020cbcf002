use Rattle.std.proofs.Common.{◌∙◌, sym}
use Rattle.mud_rules.proofs.Barred.{names_barred, renaming_barred, room_barred, exits_barred, key_barred, cost_barred}
use Rattle.mud_rules.proofs.laws.whatever_is_read.Goals as goal

pub returns : goal.returns
returns c = λ w p. record {
  names = λ x y. sym (names_barred w p x) ∙ names_barred w p y;
  renaming = λ o x y. sym (renaming_barred w p o x) ∙ renaming_barred w p o y;
  room = λ doors x y. sym (room_barred w p x doors) ∙ room_barred w p y doors;
  exits = λ target x y. sym (exits_barred w p target x) ∙ exits_barred w p target y;
  key = λ o x y. sym (key_barred w p o x) ∙ key_barred w p o y;
  cost = λ o x y. sym (cost_barred w p o x) ∙ cost_barred w p o y;
}
