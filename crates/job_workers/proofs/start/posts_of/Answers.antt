use Rattle.std.proofs.Common.{All, sym, subst, arith}
use Rattle.std.proofs.lemmas.List.Elements.{All-push, All-drop}
use Rattle.std.proofs.lemmas.Grind.{common_steps}
use Rattle.job_workers.specs.declared.start.Member.{Member}
use Rattle.job_workers.specs.declared.post.Post.{Post}
use Rattle.job_workers.specs.Members.{CanTake}
use Rattle.job_workers.specs.Ready.{IsReady}
use Rattle.job_workers.proofs.start.posts_of.Goals as goal

pub loop-number-preserved : goal.loop-number-preserved
loop-number-preserved g c =
    let P : Member g.row.Q.Denot → Type 0 = CanTake g.Q.Naming.capacity in
    let R : Post g.row.O.Denot g.row.Q.Denot → Type 0 =
    IsReady g.Q.Naming.capacity c.args.count in (
      first_of (omega arith, grind (arith, common_steps)),
      first_of (omega arith, grind (arith, common_steps)),
      first_of (omega arith, grind (arith, common_steps)),
      subst (All P) (sym c.remove-member.ensures.items)
          (All-drop P 1 c.loop-number.members.items c.loop-number.invariant.3),
      subst (All R) (sym c.in_ok-push.ensures.items) (All-push R c.loop-number.posts.items
          c.in_ok-post_of.field-0 c.loop-number.invariant.4 c.in_ok-post_of.ensures),
    )
