use Rattle.std.proofs.Common.{[], inl}
use Rattle.sessions.specs.Runs.{done}
use Rattle.c_interface.proofs.exports.jothwila_fits.Goals as goal

pub returns : goal.returns
returns c =
    let opened = c.in-Ok.ensures in
    inl ((opened.plan_of.tree, opened.plan_of.accepted), c.fits_each.ensures c.args.pattern.now (opened.right [] _ done).front_right)
