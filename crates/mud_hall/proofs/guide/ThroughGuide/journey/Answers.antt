use Rattle.mud_hall.proofs.guide.ThroughGuide.journey.Goals as goal

pub returns-clause-version : goal.returns-clause-version
returns-clause-version g c =
    let a = c.args in
    let found = (c.requires.ready a.alloc a.world a.version a.player a.traveller a.journey c.requires.version
    c.requires.player c.requires.traveller c.requires.journey).1 c.find.result c.find.ensures in
    found.0

pub returns-clause-guided : goal.returns-clause-guided
returns-clause-guided g c =
    let a = c.args in
    let found = (c.requires.ready a.alloc a.world a.version a.player a.traveller a.journey c.requires.version
    c.requires.player c.requires.traveller c.requires.journey).1 c.find.result c.find.ensures in
    found.1
