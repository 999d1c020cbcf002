-- The state machine for a host agrees with the grammar; the absolute form of a target.
use Rattle.std.proofs.Common.{◌≡◌, ℕ, ◌<◌, ◌-◌, Bool, true, false, if◌then◌else◌, ◌==◌, List, [], ◌∷◌}
use Rattle.std.proofs.Common.{◌++◌, length, take, drop, map, refl, sym, ◌∙◌, ap, subst, arith, append_assoc}
use Rattle.std.proofs.Common.{codes, inl, inr, ◌⊎◌, length-append, take-append-drop}
use Rattle.std.specs.Prelude.{IsTrue, ◌↔◌}
use Rattle.std.specs.List.{fold}
use Rattle.std.specs.Char.{is_ascii_digit, to_ascii_lowercase}
use Rattle.std.proofs.lemmas.List.{take_at, drop_at, length-map}
use Rattle.std.proofs.lemmas.List.Elements.{All-nil, All-cons, All-head, All-tail}
use Rattle.std.proofs.lemmas.Bool.Decides.{nat_tests}
use Rattle.std.proofs.lemmas.Slice.Eq.{bytes_eq-Decides}
use Rattle.httparse.specs.Grammar.{AllPass}
use Rattle.httparse.specs.Ascii.{colon}
use Rattle.websocket.specs.Headers.{eq_ignore_case}
use Rattle.mud_web.specs.declared.host.HostPlace.{HostPlace}
use Rattle.mud_web.specs.declared.host.HostPlace.TheVariants.{Start, Name, Open, Literal, Shut, Port, Other}
use Rattle.mud_web.specs.Targets.{is_host_byte, is_literal_byte, IsName, IsLiteral, IsPort, IsHost, IsBehind, IsSite}
use Rattle.mud_web.specs.inner.HostPlaces.{next, is_end}

abbrev Ends : HostPlace → List ℕ → Type 0
Ends place bs = is_end (fold next place bs) ≡ true

other_stays : (bs : List ℕ) → fold next Other bs ≡ Other
other_stays [] = refl
other_stays (b ∷ bs) = other_stays bs

not_other : (bs : List ℕ) → ¬ (Ends Other bs)
not_other bs ends = cc (sym ends ∙ ap is_end (other_stays bs))

equal_is : (b wanted : ℕ) → (b == wanted) ≡ true → b ≡ wanted
equal_is b wanted is = grind (arith, nat_tests)

-- ---- the port

digit_by : (b : ℕ) (bs : List ℕ) (t : Bool) → is_ascii_digit b ≡ t → Ends (if t then Port else Other) bs
    → (Ends Port bs → AllPass is_ascii_digit bs) → AllPass is_ascii_digit (b ∷ bs)
digit_by b bs true digit ends later = All-cons (λ b. IsTrue (is_ascii_digit b)) b bs digit (later ends)
digit_by b bs false digit ends later = absurd (not_other bs ends)

digits_from : (bs : List ℕ) → Ends Port bs → AllPass is_ascii_digit bs
digits_from [] ends = All-nil (λ b. IsTrue (is_ascii_digit b))
digits_from (b ∷ bs) ends = digit_by b bs _ refl ends (digits_from bs)

port_next : (b : ℕ) → is_ascii_digit b ≡ true → next Port b ≡ Port
port_next b h = rw h refl

ends_at : (place : HostPlace) (b : ℕ) (bs : List ℕ) (behind : HostPlace) → next place b ≡ behind → Ends behind bs
    → Ends place (b ∷ bs)
ends_at place b bs behind leads ends = ap (λ (p : HostPlace). is_end (fold next p bs)) leads ∙ ends

digits_end : (bs : List ℕ) → AllPass is_ascii_digit bs → Ends Port bs
digits_end [] digits = refl
digits_end (b ∷ bs) digits =
    ends_at Port b bs Port (port_next b (All-head (λ b. IsTrue (is_ascii_digit b)) b bs digits))
    (digits_end bs (All-tail (λ b. IsTrue (is_ascii_digit b)) b bs digits))

-- ---- after a host

shut_by : (b : ℕ) (bs : List ℕ) (t : Bool) → (b == colon) ≡ t → Ends (if t then Port else Other) bs → IsPort (b ∷ bs)
shut_by b bs true is ends =
    inr (bs, digits_from bs ends, ap (λ (x : ℕ). x ∷ bs) (equal_is b colon is))
shut_by b bs false is ends = absurd (not_other bs ends)

port_from : (bs : List ℕ) → Ends Shut bs → IsPort bs
port_from [] ends = inl refl
port_from (b ∷ bs) ends = shut_by b bs _ refl ends

port_ends : (bs : List ℕ) → IsPort bs → Ends Shut bs
port_ends bs (inl none) = rw none refl
port_ends bs (inr (digits, all, is)) = rw is (digits_end digits all)

-- ---- a name

record InName (bs : List ℕ) : Type 0 where
  name : List ℕ
  port : List ℕ
  all : AllPass is_host_byte name
  is_port : IsPort port
  is : bs ≡ name ++ port

name_more : (b : ℕ) (bs : List ℕ) → is_host_byte b ≡ true → InName bs → InName (b ∷ bs)
name_more b bs host later = record {
  name = b ∷ later.name;
  port = later.port;
  all = All-cons (λ b. IsTrue (is_host_byte b)) b later.name host later.all;
  is_port = later.is_port;
  is = ap (λ (xs : List ℕ). b ∷ xs) later.is;
}

name_port : (b : ℕ) (bs : List ℕ) (t : Bool) → (b == colon) ≡ t → Ends (if t then Port else Other) bs → InName (b ∷ bs)
name_port b bs t is ends = record {
  name = [];
  port = b ∷ bs;
  all = All-nil (λ b. IsTrue (is_host_byte b));
  is_port = shut_by b bs t is ends;
  is = refl;
}

name_by : (b : ℕ) (bs : List ℕ) (t : Bool) → is_host_byte b ≡ t
    → Ends (if t then Name else if b == colon then Port else Other) bs → (Ends Name bs → InName bs) → InName (b ∷ bs)
name_by b bs true host ends later = name_more b bs host (later ends)
name_by b bs false host ends later = name_port b bs _ refl ends

name_from : (bs : List ℕ) → Ends Name bs → InName bs
name_from [] ends =
    record { name = []; port = []; all = All-nil (λ b. IsTrue (is_host_byte b)); is_port = inl refl; is = refl }
name_from (b ∷ bs) ends = name_by b bs _ refl ends (name_from bs)

name_next : (b : ℕ) → is_host_byte b ≡ true → next Name b ≡ Name
name_next b h = rw h refl

name_colon : next Name colon ≡ Port
name_colon = refl

port_of_name : (port : List ℕ) → IsPort port → Ends Name port
port_of_name port (inl none) = rw none refl
port_of_name port (inr (digits, all, is)) = rw is (digits_end digits all)

name_ends : (name port : List ℕ) → AllPass is_host_byte name → IsPort port → Ends Name (name ++ port)
name_ends [] port all is_port = port_of_name port is_port
name_ends (b ∷ name) port all is_port =
    ends_at Name b (name ++ port) Name (name_next b (All-head (λ b. IsTrue (is_host_byte b)) b name all))
    (name_ends name port (All-tail (λ b. IsTrue (is_host_byte b)) b name all) is_port)

-- ---- an address

record InLiteral (bs : List ℕ) : Type 0 where
  address : List ℕ
  port : List ℕ
  all : AllPass is_literal_byte address
  is_port : IsPort port
  is : bs ≡ address ++ (codes "]" ++ port)

literal_more : (b : ℕ) (bs : List ℕ) → is_literal_byte b ≡ true → InLiteral bs → InLiteral (b ∷ bs)
literal_more b bs byte later = record {
  address = b ∷ later.address;
  port = later.port;
  all = All-cons (λ b. IsTrue (is_literal_byte b)) b later.address byte later.all;
  is_port = later.is_port;
  is = ap (λ (xs : List ℕ). b ∷ xs) later.is;
}

literal_shut : (b : ℕ) (bs : List ℕ) (t : Bool) → (b == 93) ≡ t → Ends (if t then Shut else Other) bs
    → InLiteral (b ∷ bs)
literal_shut b bs true is ends = record {
  address = [];
  port = bs;
  all = All-nil (λ b. IsTrue (is_literal_byte b));
  is_port = port_from bs ends;
  is = ap (λ (x : ℕ). x ∷ bs) (equal_is b 93 is);
}
literal_shut b bs false is ends = absurd (not_other bs ends)

literal_by : (b : ℕ) (bs : List ℕ) (t : Bool) → is_literal_byte b ≡ t
    → Ends (if t then Literal else if b == 93 then Shut else Other) bs → (Ends Literal bs → InLiteral bs)
    → InLiteral (b ∷ bs)
literal_by b bs true byte ends later = literal_more b bs byte (later ends)
literal_by b bs false byte ends later = literal_shut b bs _ refl ends

literal_from : (bs : List ℕ) → Ends Literal bs → InLiteral bs
literal_from [] ends = absurd (cc ends)
literal_from (b ∷ bs) ends = literal_by b bs _ refl ends (literal_from bs)

record HasAddress (bs : List ℕ) : Type 0 where
  inside : InLiteral bs
  some : 0 < length inside.address

open_by : (b : ℕ) (bs : List ℕ) (t : Bool) → is_literal_byte b ≡ t → Ends (if t then Literal else Other) bs
    → HasAddress (b ∷ bs)
unfolding literal_more
open_by b bs true byte ends = record { inside = literal_more b bs byte (literal_from bs ends); some = omega arith }
open_by b bs false byte ends = absurd (not_other bs ends)

open_from : (bs : List ℕ) → Ends Open bs → HasAddress bs
open_from [] ends = absurd (cc ends)
open_from (b ∷ bs) ends = open_by b bs _ refl ends

literal_next : (b : ℕ) → is_literal_byte b ≡ true → next Literal b ≡ Literal
literal_next b h = rw h refl

open_next : (b : ℕ) → is_literal_byte b ≡ true → next Open b ≡ Literal
open_next b h = rw h refl

literal_ends : (address port : List ℕ) → AllPass is_literal_byte address → IsPort port
    → Ends Literal (address ++ (codes "]" ++ port))
literal_ends [] port all is_port = port_ends port is_port
literal_ends (b ∷ address) port all is_port =
    ends_at Literal b (address ++ (codes "]" ++ port)) Literal
    (literal_next b (All-head (λ b. IsTrue (is_literal_byte b)) b address all))
    (literal_ends address port (All-tail (λ b. IsTrue (is_literal_byte b)) b address all) is_port)

open_ends : (address port : List ℕ) → 0 < length address → AllPass is_literal_byte address → IsPort port
    → Ends Open (address ++ (codes "]" ++ port))
open_ends [] port some all is_port = absurd (omega arith)
open_ends (b ∷ address) port some all is_port =
    ends_at Open b (address ++ (codes "]" ++ port)) Literal
    (open_next b (All-head (λ b. IsTrue (is_literal_byte b)) b address all))
    (literal_ends address port (All-tail (λ b. IsTrue (is_literal_byte b)) b address all) is_port)

-- ---- a host

host_open : (b : ℕ) (bs : List ℕ) (t : Bool) → (b == 91) ≡ t → Ends (if t then Open else Other) bs → IsHost (b ∷ bs)
host_open b bs true is ends =
    let address = open_from bs ends in
    let inside = address.inside in
    record {
      host = codes "[" ++ (inside.address ++ codes "]");
      port = inside.port;
      is_host = inr (inside.address, address.some, inside.all, refl);
      is_port = inside.is_port;
      is = ap (λ (x : ℕ). x ∷ bs) (equal_is b 91 is)
          ∙ ap (λ (xs : List ℕ). 91 ∷ xs) (inside.is ∙ sym (append_assoc inside.address (codes "]") inside.port));
    }
host_open b bs false is ends = absurd (not_other bs ends)

host_by : (b : ℕ) (bs : List ℕ) (t : Bool) → is_host_byte b ≡ t
    → Ends (if t then Name else if b == 91 then Open else Other) bs → IsHost (b ∷ bs)
host_by b bs true byte ends =
    let later = name_from bs ends in
    record {
      host = b ∷ later.name;
      port = later.port;
      is_host = inl (omega arith, All-cons (λ b. IsTrue (is_host_byte b)) b later.name byte later.all);
      is_port = later.is_port;
      is = ap (λ (xs : List ℕ). b ∷ xs) later.is;
    }
host_by b bs false byte ends = host_open b bs _ refl ends

host_from : (bs : List ℕ) → Ends Start bs → IsHost bs
host_from [] ends = absurd (cc ends)
host_from (b ∷ bs) ends = host_by b bs _ refl ends

start_next : (b : ℕ) → is_host_byte b ≡ true → next Start b ≡ Name
start_next b h = rw h refl

start_name : (name port : List ℕ) → 0 < length name → AllPass is_host_byte name → IsPort port
    → Ends Start (name ++ port)
start_name [] port some all is_port = absurd (omega arith)
start_name (b ∷ name) port some all is_port =
    ends_at Start b (name ++ port) Name (start_next b (All-head (λ b. IsTrue (is_host_byte b)) b name all))
    (name_ends name port (All-tail (λ b. IsTrue (is_host_byte b)) b name all) is_port)

start_by : (host port : List ℕ) → IsName host ⊎ IsLiteral host → IsPort port → Ends Start (host ++ port)
start_by host port (inl name) is_port = start_name host port name.0 name.1 is_port
start_by host port (inr (address, some, all, is)) is_port =
    ap (λ (xs : List ℕ). is_end (fold next Start (xs ++ port))) is
    ∙ (ap (λ (xs : List ℕ). is_end (fold next Open xs)) (append_assoc address (codes "]") port)
    ∙ open_ends address port some all is_port)

pub host_ends : (bs : List ℕ) → IsHost bs → Ends Start bs
host_ends bs form =
    ap (λ (xs : List ℕ). is_end (fold next Start xs)) form.is ∙ start_by form.host form.port form.is_host form.is_port

pub host_decides : (bs : List ℕ) (place : HostPlace) (r : Bool) → place ≡ fold next Start bs → r ≡ is_end place
    → IsTrue r ↔ IsHost bs
host_decides bs place r at is =
    (λ h. host_from bs (sym (is ∙ ap is_end at) ∙ h), λ form. is ∙ (ap is_end at ∙ host_ends bs form))

-- ---- the absolute form

same_letters : (front start : List ℕ) → eq_ignore_case front start ≡ true
    → map to_ascii_lowercase front ≡ map to_ascii_lowercase start
unfolding eq_ignore_case
same_letters front start is = (bytes_eq-Decides _ _).0 is

letters_same : (front start : List ℕ) → map to_ascii_lowercase front ≡ map to_ascii_lowercase start
    → eq_ignore_case front start ≡ true
unfolding eq_ignore_case
letters_same front start is = (bytes_eq-Decides _ _).1 is

same_length : (front start : List ℕ) → eq_ignore_case front start ≡ true → length front ≡ length start
same_length front start is =
    let same = ap length (same_letters front start is) in
    sym (length-map front to_ascii_lowercase) ∙ (same ∙ length-map start to_ascii_lowercase)

pub too_short : (start bs : List ℕ) → length bs < length start → ¬ (IsBehind start bs)
too_short start bs short (front, host, letters, form, is) =
    absurd (omega (arith, same_length front start letters, ap length is, length-append front host))

front_is : (start bs front host : List ℕ) → eq_ignore_case front start ≡ true → bs ≡ front ++ host
    → (take (length start) bs ≡ front) × (drop (length start) bs ≡ host)
front_is start bs front host letters is =
    let len = same_length front start letters in (
      ap (take (length start)) is ∙ take_at front host (length start) len,
      ap (drop (length start)) is ∙ drop_at front host (length start) len,
    )

pub behind_decides : (start bs front host : List ℕ) (e h : Bool) → front ≡ take (length start) bs
    → host ≡ drop (length start) bs
    → IsTrue e ↔ (map to_ascii_lowercase front ≡ map to_ascii_lowercase start) → e ≡ true → IsTrue h ↔ IsHost host
    → IsTrue h ↔ IsBehind start bs
behind_decides start bs front host e h front_at host_at same letters decides = (
  λ yes. (
    front,
    host,
    letters_same front start (same.0 letters),
    decides.0 yes,
    sym (rw (front_at, host_at) (take-append-drop (length start) bs)),
  ),
  λ behind. decides.1 (subst IsHost (sym (front_is start bs behind.0 behind.1 behind.2 behind.4).1 ∙ sym host_at)
      behind.3),
)

pub other_letters : (start bs front : List ℕ) (e : Bool) → front ≡ take (length start) bs
    → IsTrue e ↔ (map to_ascii_lowercase front ≡ map to_ascii_lowercase start) → e ≡ false → ¬ (IsBehind start bs)
other_letters start bs front e front_at same letters (other, host, likewise, form, is) =
    let at : other ≡ front = sym (front_is start bs other host likewise is).0 ∙ sym front_at in
    absurd (cc (sym letters ∙ same.1
    (subst (λ (xs : List ℕ). map to_ascii_lowercase xs ≡ map to_ascii_lowercase start) at
    (same_letters other start likewise))))

abbrev Absolute : (target path : List ℕ) → Type 0
Absolute target path = (site : List ℕ) × IsSite site × (target ≡ site ++ path)

pub too_short_for : (target path : List ℕ) → length target < length path → ¬ (Absolute target path)
too_short_for target path short (site, is_site, is) = absurd (omega (arith, ap length is, length-append site path))

site_is : (target path site : List ℕ) → target ≡ site ++ path
    → (take (length target - length path) target ≡ site) × (drop (length target - length path) target ≡ path)
site_is target path site is =
    let len : length site ≡ length target - length path = omega (arith, ap length is, length-append site path) in (
      ap (take (length target - length path)) is ∙ take_at site path (length target - length path) len,
      ap (drop (length target - length path)) is ∙ drop_at site path (length target - length path) len,
    )

pub absolute_decides : (target path site rest : List ℕ) (s : Bool)
    → site ≡ take (length target - length path) target → rest ≡ drop (length target - length path) target
    → rest ≡ path → IsTrue s ↔ IsSite site → IsTrue s ↔ Absolute target path
absolute_decides target path site rest s site_at rest_at same decides =
    let n : ℕ = length target - length path in (
      λ yes. (
        site,
        decides.0 yes,
        sym (take-append-drop n target)
            ∙ (ap (λ (xs : List ℕ). xs ++ drop n target) (sym site_at)
            ∙ ap (λ (xs : List ℕ). site ++ xs) (sym rest_at ∙ same)),
      ),
      λ form. decides.1 (subst IsSite (sym (site_is target path form.0 form.2).0 ∙ sym site_at) form.1),
    )

pub other_path : (target path rest : List ℕ) → rest ≡ drop (length target - length path) target → ¬ (rest ≡ path)
    → ¬ (Absolute target path)
other_path target path rest rest_at other (site, is_site, is) =
    other (rest_at ∙ (site_is target path site is).1)
