use Rattle.std.proofs.Common.{refl, arith}
use lib.Seq.{length-take-le}
use Rattle.rules.specs.Basics.{up_to}
use Rattle.listing.proofs.Laying.{front_more, front_all}
use Rattle.listing.proofs.read_into.Goals as goal

pub loop-i-init : goal.loop-i-init
unfolding up_to
loop-i-init g c = λ f same. refl

pub loop-i-preserved : goal.loop-i-preserved
loop-i-preserved g c = λ f same.
    front_more f c.loop-i.x-items c.loop-i.i c.read.result (c.loop-i.invariant f same) (omega (arith, c.loop-i-test.true, c.loop-i.auto.x-items))
    (same c.loop-i.i c.read.result (omega (arith, c.loop-i-test.true, length-take-le c.args.count c.args.out.now c.requires.room)) c.read.ensures)

pub returns : goal.returns
returns g c = λ f same.
    front_all f c.loop-i.x-items c.args.out.now c.loop-i.i c.args.count (c.loop-i.invariant f same) c.loop-i.auto.x-items c.requires.room
    (omega (arith, c.loop-i-test.false, c.loop-i.auto.i-end))
