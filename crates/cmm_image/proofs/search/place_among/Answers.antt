use Rattle.std.proofs.Common.{◌+◌, ◌-◌, ◌/◌, arith}
use Rattle.cmm_image.proofs.SearchLaws.{found_there, nowhere, upper_there}
use Rattle.cmm_image.proofs.search.place_among.Goals as goal

pub returns-then-here-address : goal.returns-then-here-address
returns-then-here-address c =
    found_there c.args.sites.now c.args.address (c.loop-low.low + (c.loop-low.high - c.loop-low.low) / 2) c.index-sites-middle.result c.requires.ascending
    (omega (arith, c.loop-low-test.true, c.loop-low.invariant.inside)) c.if-here-address.true

pub loop-low-preserved-then-here-address-2 : goal.loop-low-preserved-then-here-address-2
loop-low-preserved-then-here-address-2 c =
    upper_there c.args.sites.now c.args.address c.loop-low.low c.loop-low.high (c.loop-low.low + (c.loop-low.high - c.loop-low.low) / 2)
    c.index-sites-middle.result c.requires.ascending c.loop-low.invariant (omega arith) (omega (arith, c.loop-low-test.true)) c.if-here-address-2.true

pub returns : goal.returns
returns c = nowhere c.args.sites.now c.args.address c.loop-low.low c.loop-low.high c.loop-low.invariant c.loop-low-test.false
