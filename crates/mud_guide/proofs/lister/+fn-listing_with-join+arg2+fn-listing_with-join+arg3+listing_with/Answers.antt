use Rattle.std.proofs.Common.{◌+◌, ◌-◌, length, rules, arith}
use Rattle.mud_search.specs.Least.{label_in}
use Rattle.mud_guide.specs.inner.Travellers.{AreMembers}
use Rattle.mud_guide.specs.inner.Listings.{IsListing}
use Rattle.mud_guide.proofs.Parts.{members_front, members_back}
use Rattle.mud_guide.proofs.Listings.{listing-beside}
use Rattle.mud_guide.proofs.lister.+fn-listing_with-join+arg2+fn-listing_with-join+arg3+listing_with.Goals as goal

pub returns : goal.returns
returns g t c =
    let w = c.args.world.now in
    let labels = label_in c.args.labels.now in
    let front = c.split_at.result.0.now in
    let back = c.split_at.result.1.now in
    let behind = c.args.first + (length c.args.party.now - c.last_share.result) in
    let one : IsListing w labels c.args.first c.args.to front c.in_ok-listing.listing = search rules in
    let other : IsListing w labels behind c.args.to back c.in_ok-others.others = search rules in
    listing-beside w labels c.args.first behind c.args.to c.args.party.now front back
    c.in_ok-listing.listing c.in_ok-others.others _
    c.split_at.ensures.by_index.0 (omega (arith, c.split_at.ensures.front_len)) one other
    c.in_ok-append.ensures.items c.in_ok-append-2.ensures.items

pub join-others-requires-after_bounds : goal.join-others-requires-after_bounds
join-others-requires-after_bounds g t c κs within =
    let w = c.args.world.now in
    let labels = label_in c.args.labels.now in
    let party = c.args.party.now in
    let xs = c.split_at.result.0.now in
    let ys = c.split_at.result.1.now in
    let behind = c.args.first + (length party - c.last_share.result) in
    let parted = c.split_at.ensures.by_index.0 in
    let front : AreMembers w labels c.args.first xs =
    members_front w labels c.args.first party xs ys c.requires.members parted in
    let back : AreMembers w labels behind ys =
    members_back w labels c.args.first behind party xs ys c.requires.members parted
    (omega (arith, c.split_at.ensures.front_len)) in
    search (rules, front, back)
