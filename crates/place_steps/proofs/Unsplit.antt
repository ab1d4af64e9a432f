-- A box without a candidate: Split doesn't apply there.
use Rattle.std.proofs.Common.{◌≡◌, ◌≤◌, false, true, Some, None, sym, ◌∙◌, ap, subst}
use Rattle.std.specs.Prelude.{is_some}
use Rattle.akl_terms.specs.declared.name.Name.{Name}
use Rattle.akl_terms.specs.declared.name.Place.{Place}
use Rattle.akl_model.specs.declared.label.Rule.{Rule}
use Rattle.akl_model.specs.Config.{Found, box_at, site_of}
use Rattle.akl_model.specs.Stable.{Allows}
use Rattle.akl_model.specs.Wakes.{has_candidate, is_candidate}
use Rattle.akl_model.proofs.Finds.{times}
use Rattle.akl_model.proofs.NamesKept.{replay-stands}
use Rattle.plan_laws.proofs.IdlePlaces.{split_candidate}
use Rattle.table_laws.specs.Stamped.{IsTableOf}
use Rattle.box_tree.specs.Tables.{all_rules, table_of}
use Rattle.box_tree.specs.Views.{ViewValue, run_of}
use Rattle.box_tree.proofs.ShownChoices.{candidate_there}
use Rattle.split_plan.specs.Split.{HasNoSplit}
use Rattle.place_steps.specs.Seen.{HasCandidate}

module _ (v : ViewValue) (h : HasCandidate v None) where
  module _ (t : IsTableOf all_rules (run_of v.table v.journal) (table_of v.table)) (f : Found) (e : site_of v.place t.config.roots ≡ Some f) where
    pub box_there : box_at h.name t.config.roots ≡ Some f
    box_there = subst (λ (q : Place). site_of q t.config.roots ≡ Some f) h.is_box e

    once : (m : Name) → times m t.config.roots ≤ 1
    once = (replay-stands all_rules v.table.program v.table.query v.journal t.config t.replays).once

    pub no_candidate : has_candidate f.goals ≡ false
    no_candidate = sym (ap is_candidate box_there) ∙ sym (candidate_there v.table t.config t.unfolds once h.name f box_there) ∙ ap is_some h.candidate

  pub no_split : HasNoSplit v
  no_split = record {
    none = λ t l d a e r.
        let allowed : Allows v.table.program a.makes.reading Rule.Split (Place.Box h.name) l.alternative a.site =
        subst (λ (q : Place). Allows v.table.program a.makes.reading Rule.Split q l.alternative a.site) (e ∙ h.is_box)
        (subst (λ (q : Rule). Allows v.table.program a.makes.reading q l.place l.alternative a.site) r a.makes.allowed) in
        let one : has_candidate a.site.goals ≡ true = split_candidate v.table.program a.makes.reading h.name l.alternative a.site allowed in
        let none : has_candidate a.site.goals ≡ false = no_candidate t a.site (subst (λ (q : Place). site_of q t.config.roots ≡ Some a.site) e a.is_site) in
        cc;
  }
