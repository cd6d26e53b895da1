use Rattle.std.proofs.Common.{sym, ap, subst}
use Rattle.glushkov.specs.Nodes.{tree_in}
use Rattle.glushkov.specs.Passes.{PartOf, LinksOf}
use Rattle.glushkov.proofs.LinkLaws.{cat_links, alt_links, repeat_links, JoinedAgain, one_of}
use Rattle.glushkov.proofs.links.+link.Goals as goal
use Rattle.glushkov.proofs.links.+link.Goals.{in-Some, in_default}

pub returns-in-Cat : goal.returns-in-Cat
returns-in-Cat t c =
    let e = ap tree_in c.in-Cat.is in
    let pa = rw c.deref.ensures at c.link-left.ensures.part in
    let la = rw c.deref.ensures at c.link-left.ensures.links in
    let pb = rw c.deref-in-Cat.ensures at c.link-right.ensures.part in
    let lb = rw c.deref-in-Cat.ensures at c.link-right.ensures.links in
    record {
      part = subst (λ v. PartOf v c.args.offset c.followed_by.result) (sym e) (c.followed_by.ensures _ _ _ pa pb);
      links =
          subst (λ v. LinksOf v c.args.offset c.args.inside c.args.rows.now c.join.new.rows) (sym e)
          (cat_links _ _ _ _ _ _ c.link-right.new.rows _ c.link-left.result c.link-right.result c.meeting_link.result c.meeting_link.ensures pa pb la lb c.join.ensures);
    }

pub returns-in-Alt : goal.returns-in-Alt
returns-in-Alt t c =
    let e = ap tree_in c.in-Alt.is in
    let pa = rw c.deref-in-Alt.ensures at c.link-left-in-Alt.ensures.part in
    let la = rw c.deref-in-Alt.ensures at c.link-left-in-Alt.ensures.links in
    let pb = rw c.deref-in-Alt-2.ensures at c.link-right-in-Alt.ensures.part in
    let lb = rw c.deref-in-Alt-2.ensures at c.link-right-in-Alt.ensures.links in
    record {
      part = subst (λ v. PartOf v c.args.offset c.or.result) (sym e) (c.or.ensures _ _ _ pa pb);
      links =
          subst (λ v. LinksOf v c.args.offset c.args.inside c.args.rows.now c.link-right-in-Alt.new.rows) (sym e)
          (alt_links _ _ _ _ _ _ _ c.link-left-in-Alt.result pa la lb);
    }

pub returns-in-Leaf-clause-part : goal.returns-in-Leaf-clause-part
returns-in-Leaf-clause-part t c =
    let (codes, e) = one_of c.in-Leaf.is in
    subst (λ v. PartOf v c.args.offset c.one_place.result) (sym e) (c.one_place.ensures codes)

pub returns-after-link_again-clause-links : goal.returns-after-link_again-clause-links
returns-after-link_again-clause-links t c =
    let e = ap tree_in c.in-Repeat.is in
    let pa = rw c.deref-in-Repeat.ensures at c.link-part.ensures.part in
    let la = rw c.deref-in-Repeat.ensures at c.link-part.ensures.links in
    let again : JoinedAgain c.link-part.result.lasts c.link-part.result.firsts c.link_again.result c.link-part.new.rows c.match-link_again.rows =
    elim c.match-link_again.branch [
      | in-Some w ↦ rw (w.in-Some.is, w.rows-is) w.join-in-Some.ensures
      | in_default w ↦ rw w.in_default.is w.rows-is
    ] in
    subst (λ v. LinksOf v c.args.offset c.args.inside c.args.rows.now c.match-link_again.rows) (sym e)
    (repeat_links c.in-Repeat.times _ _ c.args.inside c.inside_body.result _ c.link-part.new.rows _ c.link-part.result c.link_again.result c.inside_body.ensures c.link_again.ensures pa la again)
