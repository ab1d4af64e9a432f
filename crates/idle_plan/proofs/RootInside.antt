-- Nothing is to be listed of a root box, since it needs to be told of nothing.
use Rattle.std.proofs.Common.{◌≡◌, ℕ, List, [], ◌∙◌}
use Rattle.akl_terms.specs.declared.program.Program.{Program}
use Rattle.plan_laws.specs.Sleeps.{of_box}
use Rattle.plan_laws.proofs.Replayed.{good_replay}
use Rattle.plan_laws.proofs.Roots.{root_unneeded}
use Rattle.local_store.specs.Stored.{Stored}
use Rattle.box_tree.specs.declared.inside.Inside.{Inside}
use Rattle.box_tree.specs.Tables.{all_rules}
use Rattle.stable_test.specs.Seen.{IsSeenInside}
use Rattle.idle_plan.specs.Waits.{AreReachedInside}
use Rattle.idle_plan.proofs.Outermost.{no_more}

pub root_reached : (p : Program) (depth : ℕ) (i : Inside) (s : IsSeenInside p depth i) (ss : List Stored) → depth ≡ 0 → AreReachedInside p s.site depth ss []
root_reached p depth i s ss z = record {
  reached = [];
  touched = record {
    each = λ x m. absurd m;
    every = λ x t. absurd (root_unneeded s.run.config (good_replay all_rules s.table.program s.table.query s.journal s.run.config s.run.replays) p s.name s.site s.is_site (no_more s.site.around (s.deep ∙ z)) x (of_box s.is_site t));
  };
  members = record { consistent = λ y m. absurd m; each = λ y m. absurd m; every = λ c x m. absurd m.among; oldest = λ x w m o. absurd m };
}
