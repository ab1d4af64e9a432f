-- Goals and sets of goals are unchanged in both details; where the box of a goal's place is found.
use Rattle.std.proofs.Common.{◌≡◌, List, [], ◌∷◌, ◌++◌, Some}
use Rattle.akl_terms.specs.declared.name.Name.{Name}
use Rattle.akl_terms.specs.declared.program.Program.{Program}
use Rattle.akl_model.specs.declared.item.Item.{Item}
use Rattle.akl_model.specs.declared.label.Rule.{Rule}
use Rattle.akl_model.specs.declared.label.Label.{Label}
use Rattle.akl_model.specs.Config.{Config, box_at}
use Rattle.akl_model.specs.Derivations.{Applies, Derives}
use Rattle.akl_model.proofs.NamesKept.{replay-stands, site-box}
use Rattle.reading_laws.specs.Unchanged.{Unchanged}
use Rattle.step_laws.specs.Stays.{GoesOn}
use Rattle.akl_model.specs.Instances.{start}
use Rattle.akl_model.proofs.Results.{Derives-append}
use Rattle.plan_laws.proofs.InScope.{Good}
use Rattle.plan_laws.proofs.Replayed.{good_replay}
use Rattle.step_laws.specs.Untouched.{Untouched}

-- an unchanged goal is so in both details
pub goal_untouched : (rules : List Rule) (p : Program) (c : Config) (ls : List Label) (d : Config) (w : Derives rules p c ls d) (g : Name) → Unchanged rules p c ls d w (Item.Goal g) → Untouched rules p c ls d w (Item.Goal g)
goal_untouched rules p c [] d w g u = tt
goal_untouched rules p c (l ∷ ls) d w g u = (u.0, goal_untouched rules p w.0 ls d w.2 g u.1)

pub goal_site : (rules : List Rule) (p : Program) (c : Config) (ls : List Label) (d : Config) (w : GoesOn rules p c ls d) (l : Label) (e : Config) (a : Applies rules p c l e) → box_at a.site.content.name c.roots ≡ Some a.site
goal_site rules p c ls d w l e a = site-box l.place c.roots a.site (replay-stands rules p w.query w.journal c w.replays).once a.is_site

-- sets of goals are unchanged in both details
pub goals_untouched : (rules : List Rule) (p : Program) (c : Config) (ls : List Label) (d : Config) (w : Derives rules p c ls d) (n : Name) → Unchanged rules p c ls d w (Item.Goals n) → Untouched rules p c ls d w (Item.Goals n)
goals_untouched rules p c [] d w n u = tt
goals_untouched rules p c (l ∷ ls) d w n u = (u.0, goals_untouched rules p w.0 ls d w.2 n u.1)

pub good_later : (rules : List Rule) (p : Program) (c : Config) (ls : List Label) (d : Config) → GoesOn rules p c ls d → Good d
good_later rules p c ls d w = good_replay rules p w.query (w.journal ++ ls) d (record { derives = Derives-append rules p (start p w.query) c d w.journal ls w.replays.derives w.derives })
