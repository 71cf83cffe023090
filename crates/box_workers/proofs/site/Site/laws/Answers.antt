use Rattle.std.proofs.Common.{ap, sym, ◌∙◌}
use Rattle.box_tree.specs.Pieces.{piece_count}
use Rattle.box_workers.proofs.site.Site.laws.Goals as goal

pub returns : goal.returns
returns g c =
    c.boxes_are_listed.ensures g.S.Entry.Posted.cut_at g.S.Entry.Posted.state_at
    (λ p deep. ap piece_count (sym (c.self.invariant p)) ∙ c.laws.ensures p deep)
