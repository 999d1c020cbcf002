use Rattle.mud_client.proofs.Leaving.{says_none}
use Rattle.mud_client.proofs.client.Client.refuse.Goals as goal

pub new-nothing-requires : goal.new-nothing-requires
new-nothing-requires g c = record { tells = ∣ says_none c.new.result.items c.new.ensures.items ∣₁ }
