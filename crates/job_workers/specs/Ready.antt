-- How a worker starts.
use Rattle.std.specs.Prelude.{◌≡◌, ◌≤◌, ℕ, [], vec_capacity}
use Rattle.box_deques.specs.Stealing.{CanSteal}
use Rattle.job_workers.specs.declared.post.Post.{Post}

-- it can take jobs, and has room for the results of so many, and none so far
pub record IsReady {O Q : Type 0} (capacity count : ℕ) (post : Post O Q) : Type 0 where
  pub passes : CanSteal capacity post.hand post.thieves.items
  pub none : post.done.items ≡ []
  pub room : count ≤ vec_capacity post.done
