-- No label applies at a root box or inside it in the configuration with equations that leave what it watches.
use Rattle.std.proofs.Common.{◌≡◌, ◌+◌, ◌≤◌, ◌<◌, List, [], Some, refl, sym, subst, inl, arith}
use Rattle.std.specs.Prelude.{slice_index}
use Rattle.akl_terms.specs.declared.name.Name.{Name}
use Rattle.akl_terms.specs.declared.program.Program.{Program}
use Rattle.akl_terms.specs.declared.program.Query.{Query}
use Rattle.akl_terms.specs.Equal.{Equations}
use Rattle.akl_terms.proofs.SameNames.{same_name-refl}
use Rattle.akl_model.specs.declared.label.Rule.{Rule}
use Rattle.akl_model.specs.declared.label.Label.{Label}
use Rattle.akl_model.specs.Config.{Content, Config, Found, box_at}
use Rattle.akl_model.specs.Stable.{EachBox, only}
use Rattle.akl_model.specs.Derivations.{IsInForce, Applies, Replays, IsQuietEnd}
use Rattle.akl_model.specs.Wakes.{IsAt}
use Rattle.akl_model.proofs.Finds.{times, times-edited}
use Rattle.akl_model.proofs.NamesKept.{Stand, box-itself, replay-stands}
use Rattle.akl_model.proofs.OnlySplits.{holds_at}
use Rattle.step_laws.specs.Whereabouts.{BoxIn, Stands}
use Rattle.step_laws.proofs.Whereabouts.{found_in, in_found}
use Rattle.step_laws.proofs.Edits.{edit_new}
use Rattle.why_laws.specs.Sound.{told_more, with_told, IsIdle, LeavesWatched}
use Rattle.why_laws.proofs.RootWaits.{stays_idle_told}

module _ (c : Config) (s : Stand c) (E : Equations) (f : Found) (e : box_at f.content.name c.roots ≡ Some f) (root : f.around ≡ []) where
  abbrev now : Config
  now = with_told E f c

  -- no name is drawn or lost
  as_often : (n : Name) → times n now.roots ≡ times n c.roots
  as_often n =
      let h : times n now.roots + times n (only f) ≡ times n c.roots + times n (only (told_more E f)) = times-edited n f.content.name (only (told_more E f)) c.roots f (s.once f.content.name) e in
      let i : times n (only (told_more E f)) ≡ times n (only f) = refl in
      omega arith

  stand : Stand now
  stand = record {
    once = λ n. let h : times n now.roots ≡ times n c.roots = as_often n in let o : times n c.roots ≤ 1 = s.once n in omega arith;
    below = λ n h. s.below n (subst (λ (k : _). 0 < k) (as_often n) h);
  }

  stands : Stands (told_more E f) now.roots
  stands = subst (λ (path : List Content). BoxIn path (told_more E f).content f.goals now.roots) (sym root)
      (edit_new f.content.name (only (told_more E f)) [] (told_more E f).content f.goals (inl (refl, refl, refl)) c.roots [] f.content f.goals
      (subst (λ (path : List Content). BoxIn path f.content f.goals c.roots) root (found_in f.content.name c.roots f e)) (same_name-refl f.content.name) tt)

  there : box_at f.content.name now.roots ≡ Some (told_more E f)
  there = in_found now.roots (told_more E f) stand.once stands

pub stays_quiet_told : (rules : List Rule) → ((r : Rule) → IsInForce rules r) → (p : Program) (q : Query) (journal : List Label) (c : Config) → Replays rules p q journal c → IsQuietEnd rules p c
    → (n : Name) (f : Found) → box_at n c.roots ≡ Some f → f.around ≡ [] → (E : Equations) → LeavesWatched p f E
    → (l : Label) (d : Config) → Applies rules p (with_told E f c) l d → IsAt n (with_told E f c).roots l.place → ⊥
stays_quiet_told rules all p q journal c r end n f e root E h l d a at =
    let s : Stand c = replay-stands rules p q journal c r in
    let q2 : n ≡ f.content.name = box-itself n c.roots f e in
    let e2 : box_at f.content.name c.roots ≡ Some f = subst (λ (m : Name). box_at m c.roots ≡ Some f) q2 e in
    let each : EachBox (IsIdle p) [] (only (told_more E f)) = stays_idle_told rules all p q journal c r end n f e root E h in
    let i : IsIdle p a.site = holds_at (IsIdle p) (with_told E f c) (stand c s E f e2 root) f.content.name (told_more E f) (there c s E f e2 root)
    (subst (λ (path : List Content). EachBox (IsIdle p) path (only (told_more E f))) (sym root) each) l.place a.site a.is_site (subst (λ (m : Name). IsAt m (with_told E f c).roots l.place) q2 at) in
    i.none l (slice_index c.next l.worker) a.change a.makes
