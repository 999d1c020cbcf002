-- A certificate without doubts is valid, and a valid one has none.
use Rattle.std.proofs.Common.{◌≡◌, ℕ, ◌<◌, [], length, None, arith}
use Rattle.mud_cert.specs.declared.cert.Conclusion.{Conclusion}
use Rattle.mud_cert.specs.declared.cert.Conclusion.TheVariants.{Route, Meet}
use Rattle.std.specs.Prelude.{◌↔◌}
use Rattle.mud_world.specs.State.{State}
use Rattle.mud_world.specs.Sound.{IsSound}
use Rattle.mud_cert.specs.Certificate.{Certificate, IsCertificate, IsConclusion}
use Rattle.mud_cert.specs.Valid.{IsValid}
use Rattle.mud_cert.specs.declared.doubt.Doubt.TheVariants as doubts
use Rattle.mud_cert.specs.inner.Tests.{concludes, unless, members_doubt, first_doubt}
use Rattle.mud_cert.proofs.Doubtless.{or-none, or-both, unless-none, unless-from}
use Rattle.mud_cert.proofs.Members.{members-from, members-to}
use Rattle.mud_cert.proofs.Conclusions.{concludes-from, concludes-to}

-- a certificate has a member
pub peopled : (k : Conclusion) (count : ℕ) → IsConclusion count k → 0 < count
peopled (Route to cost) count is = omega (arith, is.0)
peopled (Meet meeting) count is = omega (arith, is.0)

pub passed-is-valid : (w : State) → IsSound w → (c : Certificate) → IsCertificate c
    → (first_doubt w c ≡ None) ↔ IsValid w c
passed-is-valid w sound c is = (
  λ e.
      let two = or-none (members_doubt w c.form [] c.members)
      (unless (concludes w c.members c.conclusion) doubts.Conclusion) e in
      let ms = members-from w sound c.form [] c.members (λ i j d lt within. absurd (omega arith)) two.0 in
      record {
        distinct = ms.0;
        members = ms.1;
        conclusion = concludes-from w sound c.form c.members c.conclusion
            (peopled c.conclusion (length c.members) is.conclusion) ms.1
            (unless-none (concludes w c.members c.conclusion) doubts.Conclusion two.1);
      },
  λ v.
      or-both (members_doubt w c.form [] c.members) (unless (concludes w c.members c.conclusion) doubts.Conclusion)
      (members-to w sound c.form [] c.members v.distinct v.members)
      (unless-from (concludes w c.members c.conclusion) doubts.Conclusion
      (concludes-to w sound c.form c.members c.conclusion
      (peopled c.conclusion (length c.members) is.conclusion) v.members v.conclusion)),
)
