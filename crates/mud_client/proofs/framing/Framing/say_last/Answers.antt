use Rattle.std.proofs.Common.{◌≡◌, ◌≢◌, ℕ, Bool, true, false, List, [], ◌∷◌, ◌++◌, Result, Ok, Err, OnOk, OnErr}
use Rattle.std.proofs.Common.{refl, sym, ap, subst, ◌∙◌, append-nil, ◌⊎◌, inl, inr, if◌then◌else◌}
use Rattle.std.specs.Prelude.{IsErr}
use Rattle.mud_web.specs.Sending.{frames_of}
use Rattle.mud_web.proofs.Sending.{frames_none}
use Rattle.websocket.specs.Connection.{can_write}
use Rattle.mud_client.specs.declared.framing.Framing.{Framing}
use Rattle.mud_client.specs.declared.framing.Framing.TheVariants.{Web}
use Rattle.mud_client.specs.Framed.{last_words}
use Rattle.mud_client.proofs.framing.Framing.say_last.Goals as goal

-- nothing is sent after a close
closed_silent : {F : Type 0} (r : Result (Unit {0}) F) (old new line : List ℕ) → OnOk r (new ≡ old ++ frames_of line)
    → OnErr r (new ≡ old) → (line ≢ [] → IsErr r) → new ≡ old
closed_silent (Err e) old new line ok err silent = err
closed_silent (Ok x) old new [] ok err silent = ok ∙ ap (λ (l : List ℕ). old ++ l) frames_none ∙ append-nil old
closed_silent (Ok x) old new (b ∷ line) ok err silent =
    let clash : false ≡ true = silent (λ e. absurd (cc)) in
    absurd (cc)

said : {F : Type 0} (r : Result (Unit {0}) F) (old new line : List ℕ) (is_open : Bool)
    → OnOk r (new ≡ old ++ frames_of line) → OnErr r (new ≡ old) → (is_open ≡ false → line ≢ [] → IsErr r)
    → (new ≡ old ++ (if is_open then frames_of line else [])) ⊎ (new ≡ old)
said (Err e) old new line is_open ok err silent = inr err
said (Ok x) old new line true ok err silent = inl ok
said {F = F} (Ok x) old new line false ok err silent =
    inr (closed_silent {F = F} (Ok x) old new line ok err (silent refl))

pub returns-in-Web-clause-said : goal.returns-in-Web-clause-said
returns-in-Web-clause-said c =
    let old = c.args.out.now.items in
    let new = c.send.new.out.items in
    subst (λ (f : Framing). (new ≡ old ++ last_words f c.args.line.now) ⊎ (new ≡ old)) (sym c.in-Web.is)
    (subst (λ (l : List ℕ). (new ≡ old ++ last_words (Web c.in-Web.channel) l) ⊎ (new ≡ old))
    c.as_bytes-in-Web.ensures.value
    (said c.send.result old new c.as_bytes-in-Web.result.now (can_write c.in-Web.channel.conn.state) c.send.ensures.ok
    c.send.ensures.err c.send.ensures.silent))
