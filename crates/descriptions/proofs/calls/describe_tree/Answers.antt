use Rattle.std.proofs.Common.{refl, ◌∙◌, arith}
use Rattle.std.proofs.lemmas.Result.{err_from_is_err_and}
use Rattle.grammar.specs.Nodes.{ast_of}
use Rattle.syntax.specs.TextLanguage.{tree_of}
use Rattle.syntax.proofs.PlaceCounts.{length_places_of}
use Rattle.descriptions.proofs.PlaceTold.{place_told, refused_memory}
use Rattle.descriptions.proofs.calls.describe_tree.Goals as goal

pub returns-in_err-places : goal.returns-in_err-places
returns-in_err-places c =
    let p = err_from_is_err_and c.from_residual.result c.from_residual.ensures.1 in
    rw (p.1, p.2) (refused_memory c.args.kind c.args.pattern.now (ast_of c.args.node.now) c.requires)

pub returns : goal.returns
returns c =
    let t = ast_of c.args.node.now in
    let of = rw c.unwrap-table.ensures at c.table_of.ensures in
    let told = c.in_ok-places.ensures in
    let many = told.0 ∙ length_places_of t in
    record {
      tree = t;
      accepted = c.requires;
      kind = refl;
      pattern = refl;
      table = of;
      counts = c.counts_used-counts.ensures (tree_of t) of;
      many = many;
      each = λ k x h. place_told c.args.kind t c.unwrap-table.result k _ of c.requires.codes h (told.1 k x (omega (arith, many)));
    }
