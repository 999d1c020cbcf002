-- The cuts of a text, and the arrival of its messages.
use Rattle.std.proofs.Common.{◌≡◌, ◌≢◌, ℕ, zero, suc, ◌<◌, ◌≤◌, ◌+◌, ◌-◌, ◌^◌, Bool, true, false}
use Rattle.std.proofs.Common.{if◌then◌else◌, ◌==◌, nat_le}
use Rattle.std.proofs.Common.{List, [], ◌∷◌, ◌++◌, length, take, drop, map, get_or, All, None, Some, Ok, refl, sym}
use Rattle.std.proofs.Common.{◌∙◌, ap, subst, inl, inr, ◌⊎◌}
use Rattle.std.proofs.Common.{arith, append_assoc, append-nil, length-take, length-drop, take-append-drop}
use native.Mathlib.Numerals.{unary_clauses}
use Rattle.std.specs.Prelude.{IsUtf8}
use Rattle.std.specs.List.{flat_map}
use Rattle.std.specs.Str.{IsAscii}
use Rattle.std.proofs.lemmas.List.{get_or-take, get_or-drop, length-take-le, drop_at, drop_all, nil_from_length}
use Rattle.std.proofs.lemmas.List.Elements.{All-nil, All-cons, All-head, All-tail, All-from_get_or}
use Rattle.std.proofs.lemmas.Bool.Decides.{nat_tests}
use Rattle.std.proofs.lemmas.Str.{IsUtf8-from_ascii, IsAscii-take, IsAscii-drop}
use Rattle.websocket.specs.declared.protocol.frame.codec.FrameStatus.TheVariants.{Complete}
use Rattle.websocket.specs.declared.protocol.frame.coding.OpCode.TheVariants as Op
use Rattle.websocket.specs.declared.protocol.frame.coding.Data.TheVariants.{Text}
use Rattle.websocket.specs.Content.{text}
use Rattle.websocket.specs.Connection.{Effect, whole_header, read_step, on_frame, on_data, on_message_bytes}
use Rattle.websocket.specs.Stream.{Trace, prepend, read_all}
use Rattle.websocket.proofs.StreamLemmas.{read_step-encode_frame}
use Rattle.websocket.proofs.TextLemmas.{is_utf8-true}
use Rattle.mud_nvt.specs.declared.codes.TheConstants.{LF}
use Rattle.mud_web.specs.declared.messages.TheConstants.{MOST_SENT}
use Rattle.mud_web.specs.inner.Cuts.{IsLastEnd, end_before, last_end, end_or, len_within, first_len, messages_within}
use Rattle.mud_web.specs.Sending.{frame_of, messages_of, frames_of}
use Rattle.mud_web.specs.Laws.{client, IsCut, AreCut, Messages, TextsArrive}
use Rattle.mud_web.proofs.Runs.{all_took}

-- ---- the last line end

none_behind : (b : ℕ) (bs : List ℕ) (n k : ℕ) → IsLastEnd bs (suc n) → suc (suc n) ≤ k → k < suc (length bs)
    → get_or (b ∷ bs) k 0 ≢ LF
none_behind b bs n zero last from to = absurd (omega arith)
none_behind b bs n (suc k) last from to = last.none k (omega arith) (omega arith)

none_left : (b : ℕ) (bs : List ℕ) (k : ℕ) → IsLastEnd bs 0 → 0 < k → k < suc (length bs) → get_or (b ∷ bs) k 0 ≢ LF
none_left b bs zero last from to = absurd (omega arith)
none_left b bs (suc k) last from to = last.none k (omega arith) (omega arith)

none_here : (b : ℕ) (bs : List ℕ) (k : ℕ) → IsLastEnd bs 0 → b ≢ LF → k < suc (length bs) → get_or (b ∷ bs) k 0 ≢ LF
none_here b bs zero last other to = other
none_here b bs (suc k) last other to = last.none k (omega arith) (omega arith)

first_ends : (b : ℕ) (bs : List ℕ) (t : Bool) → (b == LF) ≡ t → IsLastEnd bs 0
    → IsLastEnd (b ∷ bs) (if t then 1 else 0)
first_ends b bs true is last = record {
  within = omega arith;
  ends = λ h. grind (arith, nat_tests);
  none = λ k from to. none_left b bs k last (omega arith) to;
}
first_ends b bs false is last =
    let other : b ≢ LF = grind (arith, nat_tests) in
    record {
      within = omega arith;
      ends = λ h. absurd (omega arith);
      none = λ k from to. none_here b bs k last other to;
    }

last_step : (b : ℕ) (bs : List ℕ) (n : ℕ) → IsLastEnd bs n → IsLastEnd (b ∷ bs) (end_before b n)
last_step b bs (suc n) last = record {
  within = let h = last.within in omega arith;
  ends = λ h. simp unary_clauses (simp unary_clauses at (last.ends (omega arith)));
  none = λ k from to. none_behind b bs n k last from to;
}
last_step b bs zero last = first_ends b bs _ refl last

last_is : (bs : List ℕ) → IsLastEnd bs (last_end bs)
last_is [] = record { within = omega arith; ends = λ h. absurd (omega arith); none = λ k from to. absurd (omega arith) }
last_is (b ∷ bs) = last_step b bs (last_end bs) (last_is bs)

not_below : (bs : List ℕ) (n m : ℕ) → IsLastEnd bs n → IsLastEnd bs m → ¬ (n < m)
not_below bs n m one other less =
    let within : m ≤ length bs = other.within in
    one.none (m - 1) (omega arith) (omega arith) (other.ends (omega arith))

pub last_unique : (bs : List ℕ) (n : ℕ) → IsLastEnd bs n → n ≡ last_end bs
last_unique bs n one =
    let below = not_below bs n (last_end bs) one (last_is bs) in
    let above = not_below bs (last_end bs) n (last_is bs) one in
    omega (arith, below, above)

-- ---- the first message

pub length_cut : (most : ℕ) (bs : List ℕ) → most < length bs → most ≡ length (take most bs)
length_cut most bs over = omega (arith, length-take most bs)

pub fits_len : (most : ℕ) (bs : List ℕ) → length bs ≤ most → length bs ≡ len_within most bs
fits_len most bs fits =
    let small : nat_le (length bs) most ≡ true = grind (arith, nat_tests) in
    rw small refl

pub cut_len : (most : ℕ) (bs : List ℕ) (n : ℕ) → most < length bs → IsLastEnd (take most bs) n
    → end_or n most ≡ len_within most bs
cut_len most bs n over last =
    let large : nat_le (length bs) most ≡ false = grind (arith, nat_tests) in
    rw (large, last_unique (take most bs) n last) refl

pub end_some : (n most : ℕ) → n ≢ 0 → n ≡ end_or n most
end_some zero most some = absurd (some refl)
end_some (suc n) most some = refl

-- the cut of a text that is longer than the limit, at this place
record IsCutAt (most : ℕ) (bs : List ℕ) (len : ℕ) : Type 0 where
  some : 0 < len
  within : len ≤ most
  at : (get_or bs (len - 1) 0 ≡ LF) ⊎ ((len ≡ most) × ((k : ℕ) → k < most → get_or bs k 0 ≢ LF))
  last : (k : ℕ) → len ≤ k → k < most → get_or bs k 0 ≢ LF

cut_by : (most : ℕ) (bs : List ℕ) (n : ℕ) → 0 < most → most < length bs → IsLastEnd (take most bs) n
    → IsCutAt most bs (end_or n most)
cut_by most bs zero some over last =
    let same : most ≡ length (take most bs) = length_cut most bs over in
    let none = λ (k : ℕ) (h : k < most).
    subst (λ (x : ℕ). x ≢ LF) (get_or-take most bs k 0 h) (last.none k (omega arith) (omega arith)) in
    record { some = some; within = omega arith; at = inr (refl, none); last = λ k from to. none k to }
cut_by most bs (suc n) some over last =
    let same : most ≡ length (take most bs) = length_cut most bs over in
    let within : suc n ≤ length (take most bs) = last.within in
    let inside : n < most = omega arith in
    record {
      some = omega arith;
      within = omega arith;
      at = inl (simp unary_clauses
          (sym (get_or-take most bs n 0 inside) ∙ (simp unary_clauses at (last.ends (omega arith)))));
      last = λ k from to. subst (λ (x : ℕ). x ≢ LF) (get_or-take most bs k 0 to) (last.none k from (omega arith));
    }

first_cut : (most : ℕ) (bs : List ℕ) → 0 < most → most < length bs → IsCutAt most bs (len_within most bs)
first_cut most bs some over =
    subst (IsCutAt most bs) (cut_len most bs (last_end (take most bs)) over (last_is (take most bs)))
    (cut_by most bs (last_end (take most bs)) some over (last_is (take most bs)))

-- ---- its length

record IsFirst (most : ℕ) (bs : List ℕ) (len : ℕ) : Type 0 where
  some : 0 < len
  short : len ≤ most
  within : len ≤ length bs
  cut : len < length bs → (most < length bs) × IsCutAt most bs len

first_by : (most : ℕ) (bs : List ℕ) (t : Bool) → nat_le (length bs) most ≡ t → 0 < most → 0 < length bs
    → IsFirst most bs (len_within most bs)
first_by most bs true fits some any =
    let short : length bs ≤ most = grind (arith, nat_tests) in
    rw fits (record { some = any; short = short; within = omega arith; cut = λ h. absurd (omega arith) })
first_by most bs false fits some any =
    let over : most < length bs = grind (arith, nat_tests) in
    let cut = first_cut most bs some over in
    let within : len_within most bs ≤ most = cut.within in
    record { some = cut.some; short = cut.within; within = omega arith; cut = λ h. (over, cut) }

first : (most : ℕ) (bs : List ℕ) → 0 < most → 0 < length bs → IsFirst most bs (len_within most bs)
first most bs some any = first_by most bs _ refl some any

first_is : (bs : List ℕ) → 0 < length bs → IsFirst MOST_SENT bs (first_len bs)
unfolding first_len
first_is bs any = first MOST_SENT bs (omega arith) any

pub first_more : (bs : List ℕ) → 0 < length bs → 0 < first_len bs
first_more bs any = (first_is bs any).some

-- ---- all messages

enough : (n m : ℕ) (bs : List ℕ) → length bs ≤ n → length bs ≤ m → messages_within n bs ≡ messages_within m bs
enough zero zero bs one other = refl
enough zero (suc m) [] one other = refl
enough zero (suc m) (b ∷ bs) one other = absurd (omega arith)
enough (suc n) zero [] one other = refl
enough (suc n) zero (b ∷ bs) one other = absurd (omega arith)
enough (suc n) (suc m) [] one other = refl
enough (suc n) (suc m) (b ∷ bs) one other =
    let len : ℕ = first_len (b ∷ bs) in
    let front = first_is (b ∷ bs) (omega arith) in
    let some : 0 < len = front.some in
    let left : length (drop len (b ∷ bs)) ≤ length bs = omega (arith, length-drop len (b ∷ bs)) in
    ap (λ (more : List (List ℕ)). take len (b ∷ bs) ∷ more)
    (enough n m (drop len (b ∷ bs)) (omega arith) (omega arith))

pub messages_more : (bs : List ℕ) → 0 < length bs
    → messages_of bs ≡ take (first_len bs) bs ∷ messages_of (drop (first_len bs) bs)
unfolding messages_of
messages_more [] any = absurd (omega arith)
messages_more (b ∷ bs) any =
    let len : ℕ = first_len (b ∷ bs) in
    let front = first_is (b ∷ bs) any in
    let some : 0 < len = front.some in
    let left : length (drop len (b ∷ bs)) ≤ length bs = omega (arith, length-drop len (b ∷ bs)) in
    ap (λ (more : List (List ℕ)). take len (b ∷ bs) ∷ more)
    (enough (length bs) (length (drop len (b ∷ bs))) (drop len (b ∷ bs)) left (omega arith))

-- the messages of a text that is at most this long
record AreMessages (bs : List ℕ) (messages : List (List ℕ)) : Type 0 where
  whole : flat_map (λ m. m) messages ≡ bs
  sizes : All (λ m. (0 < length m) × (length m ≤ MOST_SENT)) messages
  cut : AreCut messages

inside_is : (most len : ℕ) (bs : List ℕ) → (k : ℕ) → k < length (take (most - len) (drop len bs))
    → get_or (take (most - len) (drop len bs)) k 0 ≡ get_or bs (len + k) 0
inside_is most len bs k inside =
    let fits : k < most - len = omega (arith, length-take (most - len) (drop len bs)) in
    get_or-take (most - len) (drop len bs) k 0 fits ∙ get_or-drop len bs k 0

cut_is : (most len : ℕ) (bs : List ℕ) → len < length bs → IsFirst most bs len → IsCut most (take len bs) (drop len bs)
cut_is most len bs inside front =
    let over : most < length bs = (front.cut inside).0 in
    let cut = (front.cut inside).1 in
    let size : length (take len bs) ≡ len = length-take-le len bs (omega arith) in
    let some : 0 < len = front.some in
    let front_is = λ (k : ℕ) (h : k < len). sym (get_or-take len bs k 0 h) in
    record {
      over = omega (arith, length-drop len bs);
      at = elim cut.at [
        | inl e ↦ inl (rw size (sym (front_is (len - 1) (omega arith)) ∙ e))
        | inr p ↦ inr (
          size ∙ p.0,
          All-from_get_or (λ (b : ℕ). b ≢ LF) (take len bs) 0
              (λ k h. subst (λ (x : ℕ). x ≢ LF) (front_is k (omega arith)) (p.1 k (omega (arith, p.0)))),
        )
      ];
      last = rw size (All-from_get_or (λ (b : ℕ). b ≢ LF) (take (most - len) (drop len bs)) 0
          (λ k h. subst (λ (x : ℕ). x ≢ LF) (sym (inside_is most len bs k h))
          (cut.last (len + k) (omega arith) (omega (arith, length-take (most - len) (drop len bs))))));
    }

left_by : (len : ℕ) (bs : List ℕ) (t : Bool) → nat_le (length bs) len ≡ t → drop len bs ≢ [] → len < length bs
left_by len bs true fits left = absurd (left (drop_all len bs (grind (arith, nat_tests))))
left_by len bs false fits left = grind (arith, nat_tests)

some_left : (len : ℕ) (bs : List ℕ) → drop len bs ≢ [] → len < length bs
some_left len bs left = left_by len bs _ refl left

are_messages : (n : ℕ) (bs : List ℕ) → length bs ≤ n → AreMessages bs (messages_within n bs)
are_messages zero [] fits = record {
  whole = refl;
  sizes = All-nil (λ m. (0 < length m) × (length m ≤ MOST_SENT));
  cut = tt;
}
are_messages zero (b ∷ bs) fits = absurd (omega arith)
are_messages (suc n) [] fits =
    record { whole = refl; sizes = All-nil (λ m. (0 < length m) × (length m ≤ MOST_SENT)); cut = tt }
are_messages (suc n) (b ∷ bs) fits =
    let len : ℕ = first_len (b ∷ bs) in
    let front = first_is (b ∷ bs) (omega arith) in
    let some : 0 < len = front.some in
    let short : len ≤ MOST_SENT = front.short in
    let within : len ≤ length (b ∷ bs) = front.within in
    let left : length (drop len (b ∷ bs)) ≤ n = omega (arith, length-drop len (b ∷ bs)) in
    let size : length (take len (b ∷ bs)) ≡ len = length-take-le len (b ∷ bs) within in
    let later = are_messages n (drop len (b ∷ bs)) left in
    record {
      whole = ap (λ (more : List ℕ). take len (b ∷ bs) ++ more) later.whole ∙ take-append-drop len (b ∷ bs);
      sizes = All-cons (λ m. (0 < length m) × (length m ≤ MOST_SENT)) (take len (b ∷ bs))
          (messages_within n (drop len (b ∷ bs))) (omega arith, omega arith) later.sizes;
      cut = (
        λ left. rw later.whole (cut_is MOST_SENT len (b ∷ bs)
            (some_left len (b ∷ bs) (rw later.whole at left)) front),
        later.cut,
      );
    }

pub messages : Messages
unfolding messages_of
messages bs =
    let all = are_messages (length bs) bs (omega arith) in
    (all.whole, all.sizes, all.cut)

-- ---- how the other side reads them

reads_text : (bs rest : List ℕ) → IsUtf8 bs → length bs < 2 ^ 63
    → read_step client (frame_of bs ++ rest)
    ≡ Ok (Complete (length (frame_of bs), record { message = Some (text bs); reply = None; next = client }))
unfolding on_frame on_data on_message_bytes
reads_text bs rest valid small =
    read_step-encode_frame client (whole_header (Op.Data Text) None) bs rest
    (record { mask = tt; top_bit_clear = small }) ∙ rw (is_utf8-true bs valid) refl

abbrev Reads : List (List ℕ) → List ℕ → Type 0
Reads messages rest =
    (effects : List Effect) × (map (λ e. e.message) effects ≡ map (λ m. Some (text m)) messages)
    × (read_all client (flat_map frame_of messages ++ rest) ≡ prepend effects (read_all client rest))

reads_more : (m : List ℕ) (more : List (List ℕ)) (rest : List ℕ) → IsUtf8 m → length m < 2 ^ 63 → Reads more rest
    → Reads (m ∷ more) rest
reads_more m more rest valid small (effects, messages, reads) =
    let behind : List ℕ = flat_map frame_of more ++ rest in
    let effect : Effect = record { message = Some (text m); reply = None; next = client } in
    let took = all_took client (frame_of m ++ behind)
    (length (frame_of m), effect) (reads_text m behind valid small) in (
      effect ∷ effects,
      ap (λ (ms : List _). Some (text m) ∷ ms) messages,
      ap (read_all client) (append_assoc (frame_of m) (flat_map frame_of more) rest)
          ∙ (took ∙ ap (λ (t : Trace). prepend (effect ∷ []) t)
          (ap (read_all client) (drop_at (frame_of m) behind (length (frame_of m)) refl) ∙ reads)),
    )

reads_all : (messages : List (List ℕ)) (rest : List ℕ) → All (λ m. IsUtf8 m × (length m < 2 ^ 63)) messages
    → Reads messages rest
reads_all [] rest sound = ([], refl, refl)
reads_all (m ∷ more) rest sound =
    let here = All-head (λ m. IsUtf8 m × (length m < 2 ^ 63)) m more sound in
    reads_more m more rest here.0 here.1
    (reads_all more rest (All-tail (λ m. IsUtf8 m × (length m < 2 ^ 63)) m more sound))

-- the messages of an ASCII text are ASCII
are_ascii : (n : ℕ) (bs : List ℕ) → IsAscii bs → All IsAscii (messages_within n bs)
are_ascii zero bs ascii = All-nil IsAscii
are_ascii (suc n) [] ascii = All-nil IsAscii
are_ascii (suc n) (b ∷ bs) ascii =
    let len : ℕ = first_len (b ∷ bs) in
    All-cons IsAscii (take len (b ∷ bs)) (messages_within n (drop len (b ∷ bs))) (IsAscii-take (b ∷ bs) len ascii)
    (are_ascii n (drop len (b ∷ bs)) (IsAscii-drop (b ∷ bs) len ascii))

pub texts_arrive : TextsArrive
unfolding messages_of
texts_arrive bs rest ascii =
    let all = are_ascii (length bs) bs ascii in
    let sizes = (are_messages (length bs) bs (omega arith)).sizes in
    reads_all (messages_of bs) rest
    (λ k d h. (IsUtf8-from_ascii _ (all k d h), let size = (sizes k d h).1 in omega arith))

-- ---- the premises of a loop over the messages

pub frames_more : (out bs : List ℕ) → 0 < length bs
    → (out ++ frame_of (take (first_len bs) bs)) ++ frames_of (drop (first_len bs) bs) ≡ out ++ frames_of bs
frames_more out bs any =
    rw (messages_more bs any)
    (append_assoc out (frame_of (take (first_len bs) bs)) (frames_of (drop (first_len bs) bs)))

pub frames_none : frames_of [] ≡ []
unfolding messages_of
frames_none = refl

pub one_more : (out next bs message behind : List ℕ) (len : ℕ) → len ≡ first_len bs → 0 < length bs
    → message ≡ take len bs → behind ≡ drop len bs → next ≡ out ++ frame_of message
    → next ++ frames_of behind ≡ out ++ frames_of bs
one_more out next bs message behind len cut any front back sent =
    rw (sent, front, back, cut) (frames_more out bs any)

pub none_more : (out start bs rest : List ℕ) → length rest ≡ 0 → out ++ frames_of rest ≡ start ++ frames_of bs
    → out ≡ start ++ frames_of bs
none_more out start bs rest none sent =
    sym (append-nil out) ∙ (ap (λ (xs : List ℕ). out ++ xs) (sym frames_none)
    ∙ (ap (λ (xs : List ℕ). out ++ frames_of xs) (sym (nil_from_length rest none)) ∙ sent))

pub no_text : (out bs : List ℕ) → length bs ≡ 0 → out ≡ out ++ frames_of bs
no_text out bs none = none_more out out bs bs none refl
