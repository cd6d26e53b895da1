use Rattle.std.proofs.Common.{sym, refl, ◌∙◌, zero-add, arith}
use Rattle.glushkov.specs.Nodes.{tree_in}
use Rattle.glushkov.proofs.TableMade.{no_room, start_linked, table_made}
use Rattle.glushkov.proofs.build.fill_table.Goals as goal

pub returns-in_err-widths : goal.returns-in_err-widths
returns-in_err-widths c =
    let e = tree_in c.args.node.now in
    let no = no_room e c.fresh-counts.result c.fill-last.new.self c.fresh-counts.ensures c.fill-last.ensures.counts c.fill-last.new.self.long c.in_err-widths.ensures in
    rw c.from_residual.ensures no

pub returns : goal.returns
returns c =
    let e = tree_in c.args.node.now in
    let linked = start_linked c.link-part.new.rows _ c.join_row.new.row c.link-part.result.firsts (omega arith) c.join_row.ensures in
    table_made e _ c.fresh-counts.result c.fill-last.new.self c.fresh_rows-links.result c.link-part.new.rows c.link-part.result
    (c.requires.0 ∙ sym (zero-add _)) c.fresh-counts.ensures c.fill-last.ensures.counts refl c.in_ok-widths.ensures.1
    c.link-part.ensures.part refl refl c.fresh_rows-links.ensures c.link-part.ensures.links linked
