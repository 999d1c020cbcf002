-- The waiting text is fed, piece by piece.
use Rattle.std.proofs.Common.{◌≡◌, ◌≢◌, ◌<◌, ◌+◌, ℕ, Bool, true, false, ◌==◌, ◌||◌, List, [], ◌∷◌, ◌++◌, length, map}
use Rattle.std.proofs.Common.{Some, refl, sym, ap, subst, ◌∙◌, append-nil, append_assoc, arith, length-drop}
use Rattle.std.proofs.Common.{take-append-drop}
use Rattle.std.specs.List.{position_or_len, after_first}
use Rattle.std.proofs.lemmas.List.{map-append}
use Rattle.std.proofs.lemmas.Bool.Decides.{nat_tests}
use Rattle.mud_nvt.specs.Units.{Given, units}
use Rattle.mud_nvt.specs.History.{StandsAfter}
use Rattle.mud_hall.specs.Desk.{TakesIn}
use Rattle.mud_session.specs.State.{SessionState, DoorState}
use Rattle.mud_session.specs.Session.{Turn, Plays, is_over, text_of}
use Rattle.mud_session.specs.Feeds.{Feeds}
use Rattle.mud_session.proofs.Playing.{unit_in, Plays-append, is_over-append, text_of-append}
use Rattle.mud_client.specs.Client.{ClientState}
use Rattle.mud_client.specs.Steps.{IsFed, saying, ends_line, first_line, FeedsLine, IsFedAll}

-- the first line, and the text after it
pub line_splits : (bs : List ℕ) → bs ≡ first_line bs ++ after_first ends_line bs
line_splits bs = sym (take-append-drop (position_or_len ends_line bs + 1) bs)

-- something was fed, because something waited
pub shorter : (bs rest : List ℕ) (len : ℕ) → len ≡ length bs → false ≡ (len == 0) → rest ≡ after_first ends_line bs
    → length rest < length bs
shorter [] rest len same some is = absurd (grind (arith, nat_tests, same, some))
shorter (b ∷ bs) rest len same some is =
    let n : ℕ = position_or_len ends_line (b ∷ bs) in
    omega (arith, ap length is, length-drop (n + 1) (b ∷ bs))

pub none_waits : (bs : List ℕ) (len : ℕ) → len ≡ length bs → true ≡ (len == 0) → bs ≡ []
none_waits [] len same none = refl
none_waits (b ∷ bs) len same none = absurd (grind (arith, nat_tests, same, none))

pub some_wait : (bs : List ℕ) (len : ℕ) → len ≡ length bs → false ≡ (len == 0) → bs ≢ []
some_wait bs len same some none =
    let empty : length bs ≡ 0 = ap length none in
    absurd (grind (arith, nat_tests, same, some, empty))

-- ---- two pieces

feeds_none : (earlier : List ℕ) (session : SessionState) (door : DoorState) → session.has_ended ≡ false
    → StandsAfter session.terminal earlier → Feeds TakesIn earlier [] session session door door
feeds_none earlier session door going stands = record {
  stands = subst (StandsAfter session.terminal) (sym (append-nil earlier)) stands;
  fresh = [];
  units = ap units (append-nil earlier) ∙ sym (append-nil (units earlier));
  play = record { turns = []; left = []; units_are = refl; plays = refl };
  goes_on = going;
  ended = going;
  all = λ goes_on. refl;
  out = sym (append-nil session.out);
}

-- units that all had their turns, and more units
units_so : (us vs left : List Given) (xs ys : List Turn) → map Some us ≡ map unit_in xs ++ map Some []
    → map Some vs ≡ map unit_in ys ++ map Some left → map Some (us ++ vs) ≡ map unit_in (xs ++ ys) ++ map Some left
units_so us vs left xs ys one other =
    map-append Some us vs ∙ ap (λ (l : List _). l ++ map Some vs) (one ∙ append-nil (map unit_in xs))
    ∙ ap (λ (l : List _). map unit_in xs ++ l) other
    ∙ sym (append_assoc (map unit_in xs) (map unit_in ys) (map Some left))
    ∙ ap (λ (l : List _). l ++ map Some left) (sym (map-append unit_in xs ys))

feeds_on : (earlier a b said : List ℕ) (old mid new : SessionState) (was at is : DoorState)
    → at.capacity ≡ was.capacity → mid.out ≡ []
    → Feeds TakesIn earlier a old (record mid { out = said }) was at → Feeds TakesIn (earlier ++ a) b mid new at is
    → Feeds TakesIn earlier (a ++ b) old (record new { out = said ++ new.out }) was is
feeds_on earlier a b said old mid new was at is same silent f g =
    let going : is_over f.play.turns ≡ false = sym f.ended ∙ g.goes_on in
    let none : f.play.left ≡ [] = f.all g.goes_on in
    let more : List Turn = g.play.turns in
    record {
      stands = subst (StandsAfter new.terminal) (append_assoc earlier a b) g.stands;
      fresh = f.fresh ++ g.fresh;
      units = ap units (sym (append_assoc earlier a b)) ∙ g.units ∙ ap (λ (l : List Given). l ++ g.fresh) f.units
          ∙ append_assoc (units earlier) f.fresh g.fresh;
      play = record {
        turns = f.play.turns ++ more;
        left = g.play.left;
        units_are = units_so f.fresh g.fresh g.play.left f.play.turns more
            (subst (λ (l : List Given). map Some f.fresh ≡ map unit_in f.play.turns ++ map Some l) none
            f.play.units_are) g.play.units_are;
        plays = Plays-append TakesIn was.capacity was.desk at.desk is.desk f.play.turns more going f.play.plays
            (subst (λ (n : ℕ). Plays TakesIn n at.desk more is.desk) same g.play.plays);
      };
      goes_on = f.goes_on;
      ended = g.ended ∙ sym (is_over-append f.play.turns more going);
      all = g.all;
      out = ap (λ (l : List ℕ). said ++ l) (g.out ∙ ap (λ (l : List ℕ). l ++ text_of more) silent)
          ∙ ap (λ (l : List ℕ). l ++ text_of more) f.out ∙ append_assoc old.out (text_of f.play.turns) (text_of more)
          ∙ ap (λ (l : List ℕ). old.out ++ l) (sym (text_of-append f.play.turns more));
    }

-- ---- of a client

-- so far this part of the waiting text was fed, and this output was dropped
pub record FedSoFar (done before : List ℕ) (old now : ClientState) : Type 0 where
  pub capacity : now.capacity ≡ old.capacity
  pub ended : now.has_ended ≡ true
  pub splits : old.waiting ≡ done ++ now.waiting
  pub feeds : IsFed done old (saying (before ++ now.session.out) now)

pub fed_none : (client : ClientState) → client.has_ended ≡ true → client.session.has_ended ≡ false
    → FedSoFar [] [] client client
fed_none client ended going = record {
  capacity = refl;
  ended = ended;
  splits = refl;
  feeds = λ earlier stands. feeds_none earlier client.session _ going stands;
}

-- one more line was fed, after the output was dropped
pub fed_more : (done before : List ℕ) (old mid new : ClientState) → FedSoFar done before old mid
    → FeedsLine (saying [] mid) new
    → FedSoFar (done ++ first_line mid.waiting) (before ++ mid.session.out) old new
fed_more done before old mid new f g =
    let line : List ℕ = first_line mid.waiting in
    record {
      capacity = g.same.0 ∙ f.capacity;
      ended = g.ended ∙ ap (λ (b : Bool). b || new.session.has_ended) f.ended;
      splits = f.splits ∙ ap (λ (l : List ℕ). done ++ l)
          (line_splits mid.waiting ∙ ap (λ (l : List ℕ). line ++ l) (sym g.rest))
          ∙ sym (append_assoc done line new.waiting);
      feeds = λ earlier stands.
          let one = f.feeds earlier stands in
          feeds_on earlier done line (before ++ mid.session.out) old.session (record mid.session { out = [] })
          new.session _ _ _ f.capacity refl one (g.feeds (earlier ++ done) one.stands);
    }

-- no text waits, or the session has ended
pub all_fed : (done before : List ℕ) (old now : ClientState) → FedSoFar done before old now
    → (now.session.has_ended ≡ false → now.waiting ≡ []) → IsFedAll old now
all_fed done before old now f all = record {
  done = done;
  splits = f.splits;
  all = all;
  said = before ++ now.session.out;
  feeds = f.feeds;
}
