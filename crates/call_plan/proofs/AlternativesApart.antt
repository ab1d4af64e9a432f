-- Each alternative of a call keeps apart from what is around it, and is quiet where its bindings are plain.
use Rattle.std.proofs.Common.{◌≡◌, ℕ, ◌+◌, ◌<◌, ◌^◌, List, [], ◌∷◌, ◌++◌, length, true, Some, None, refl, sym, subst, inl, inr}
use Rattle.std.specs.Prelude.{slice_index}
use Rattle.akl_terms.specs.declared.name.Name.{Name}
use Rattle.akl_terms.specs.declared.name.Var.{Var}
use Rattle.akl_terms.specs.declared.name.Place.{Place}
use Rattle.akl_terms.specs.declared.term.Node.{Node}
use Rattle.akl_terms.specs.declared.program.Clause.{Clause}
use Rattle.akl_terms.specs.declared.program.Definition.{Definition}
use Rattle.akl_terms.specs.Equal.{Equations, IsTold, IsQuiet}
use Rattle.akl_terms.specs.Standing.{StandFor}
use Rattle.akl_terms.specs.Touching.{IsLocal}
use Rattle.akl_model.specs.Conditions.{IsQuietBox}
use Rattle.akl_model.specs.Config.{Content, Goals, no_goals, environment, whole, home_of, site_of}
use Rattle.akl_model.specs.Instances.{terms_from, drawn_by}
use Rattle.akl_model.specs.Rules.{operator_of}
use Rattle.akl_model.specs.Stable.{only, frames_of, frames_inside}
use Rattle.akl_model.proofs.QuietGrows.{IsLocal-left, equations-snoc}
use Rattle.local_store.specs.Chained.{IsKnown}
use Rattle.local_store.specs.Stored.{Stored}
use Rattle.table_laws.specs.Rows.{told_in}
use Rattle.plan_laws.specs.AtOnce.{inner, AreInForce}
use Rattle.box_tree.specs.Tables.{all_rules}
use Rattle.box_tree.specs.Views.{ViewValue, IsViewOf}
use Rattle.guard_plan.specs.Guards.{KeepsApartInside, IsQuietInside}
use Rattle.guard_plan.proofs.QuietOver.{quiet_box, keeps_inside}
use Rattle.guard_plan.proofs.Sites.{whole_stands}
use Rattle.call_plan.specs.declared.heads.Arguments.{Arguments}
use Rattle.call_plan.specs.declared.own.Own.{Own}
use Rattle.call_plan.specs.Called.{IsCalled}
use Rattle.call_plan.specs.Owns.{is_plain}
use Rattle.call_plan.specs.Sifted.{frame_at, IsHeadStore, IsOwn}
use Rattle.call_plan.proofs.ForkedCall.{apart}
use Rattle.call_plan.proofs.HeadStores.{all_stand, store_frames, store_solved, known_push}
use Rattle.call_plan.proofs.LastLeft.{operator}
use Rattle.call_plan.proofs.PlainJoined.{plain_quiet}
use Rattle.call_plan.proofs.SiftedCalls.{content, guard_goals, Among}

pub in_force : AreInForce all_rules
in_force = record {
  fork = inr (inl refl);
  fail = inr (inr (inl refl));
  cut = inr (inr (inr (inl refl)));
  tell = inl refl;
  eval = inr (inr (inr (inr (inr (inl refl)))));
  promote = inr (inr (inr (inr (inl refl))));
}

module _ (v : ViewValue) (g : Name) (a : Arguments) (called : Definition) (drawn : ℕ) (h : IsCalled v g a called drawn) (is_op : operator_of called.op None ≡ Some (operator called.op)) where
  abbrev nodes : List Node
  nodes = v.table.program.templates.nodes

  abbrev i : IsViewOf v
  i = h.seen

  abbrev first : ℕ
  first = slice_index i.table.config.next v.worker

  abbrev next : ℕ
  next = first + drawn_by called.clauses

  is_home : home_of g i.table.config.roots ≡ Some i.site
  is_home = subst (λ (q : Place). site_of q i.table.config.roots ≡ Some i.site) h.is_place i.is_site

  few : drawn_by called.clauses < 2 ^ 32
  few = subst (λ (n : ℕ). n < 2 ^ 32) h.drawn_is h.few_names

  abbrev IsAmong : ℕ → Clause → Type 0
  IsAmong n c = Among v.table.program v.stores i.site (whole_stands v i) a v.worker next true first called.clauses n c

  -- the alternative of a clause, with its store
  module _ (number : ℕ) (clause : Clause) (store : Stored) (is : IsHeadStore nodes v.stores a v.worker number clause store) where
    abbrev own : Content
    own = content v.table.program v.stores i.site (whole_stands v i) a v.worker next number clause

    abbrev own_goals : Goals
    own_goals = guard_goals v.table.program v.stores i.site (whole_stands v i) a v.worker next number clause

    around_is : environment (inner i.site own no_goals) ≡ whole i.site
    around_is = equations-snoc i.site.around i.site.content

    around_stands : StandFor (IsTold (told_in nodes v.stores)) (IsTold (environment (inner i.site own no_goals)))
    around_stands = subst (λ (E : Equations). StandFor (IsTold (told_in nodes v.stores)) (IsTold E)) (sym around_is) (whole_stands v i)

    inner_stands : StandFor (IsTold (told_in nodes (v.stores ++ store ∷ []))) (IsTold (environment (inner i.site own no_goals) ++ own.equations))
    inner_stands = subst (λ (E : Equations). StandFor (IsTold (told_in nodes (v.stores ++ store ∷ []))) (IsTold (E ++ own.equations))) (sym around_is)
        (all_stand nodes v.stores (whole i.site) (whole_stands v i) a (frame_at v.worker number) clause (length v.stores) store is)

    frames : store.frames ≡ own.frames
    frames = store_frames nodes v.stores (whole i.site) (whole_stands v i) a (frame_at v.worker number) clause (length v.stores) store is

    local : (y : Var) → IsLocal store.frames y → IsLocal (frames_of (only (inner i.site own own_goals))) y
    local y l = IsLocal-left own.frames (frames_inside own_goals ++ []) y (subst (λ (fs : List Name). IsLocal fs y) frames l)

    pub keeps_apart : IsAmong number clause → KeepsApartInside nodes (v.stores ++ store ∷ [])
    keeps_apart among = keeps_inside nodes v.stores store (environment (inner i.site own no_goals)) own.equations around_stands inner_stands (frames_of (only (inner i.site own own_goals))) local
        (apart all_rules in_force v.table.program v.table.query v.journal i.table.config i.table.replays v.worker g i.site is_home h.definition (terms_from nodes a.frame a.first a.count) h.held called h.is_definition
        (operator called.op) is_op few own own_goals among)

    pub known : IsKnown nodes (v.stores ++ store ∷ []) (length v.stores + 1)
    known = known_push nodes v.stores store (subst (IsKnown nodes v.stores) h.known i.known) (store_solved nodes v.stores a (frame_at v.worker number) clause (length v.stores) store is)

    pub quiet_alternative : IsQuietInside nodes (v.stores ++ store ∷ []) → IsQuietBox (inner i.site own no_goals)
    quiet_alternative q = subst (λ (fs : List Name). IsQuiet (environment (inner i.site own no_goals)) (IsLocal fs) own.equations) frames
        (quiet_box nodes v.stores store (environment (inner i.site own no_goals)) own.equations around_stands inner_stands q)

  pub plain_are_quiet : (n : ℕ) (c : Clause) (tells : Own) → IsAmong n c → IsOwn nodes v.stores a (frame_at v.worker n) c tells → is_plain tells ≡ true
      → IsQuietBox (inner i.site (content v.table.program v.stores i.site (whole_stands v i) a v.worker next n c) no_goals)
  plain_are_quiet n c (Own.Plain bs) among o e =
      quiet_alternative n c _ o.store (plain_quiet nodes v.stores (frame_at v.worker n) bs.items o.plain (known n c _ o.store) (keeps_apart n c _ o.store among))
  plain_are_quiet n c (Own.Store s) among o e = cc
