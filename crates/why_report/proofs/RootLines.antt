-- The text of a root box that waits.
use Rattle.std.proofs.Common.{◌≡◌, false, List, [], ◌∷◌, map, Some, refl, sym, ◌∙◌, ap, subst, inl, inr}
use Rattle.std.specs.List.{AllByRecursion}
use Rattle.std.specs.Prelude.{ℕ, is_some, true}
use Rattle.akl_terms.specs.declared.name.Name.{Name}
use Rattle.akl_terms.specs.declared.name.Var.{Var}
use Rattle.akl_terms.specs.declared.name.Place.{Place}
use Rattle.akl_terms.specs.declared.program.Program.{Program}
use Rattle.akl_terms.specs.declared.program.ShownTerm.{ShownTerm}
use Rattle.akl_terms.specs.Equal.{IsTold, IsStructured}
use Rattle.akl_terms.specs.Standing.{StandFor}
use Rattle.akl_terms.proofs.StandingLaws.{StandFor-on}
use Rattle.akl_model.specs.Config.{Content, Goals, Found, whole, box_at, site_of, ShownTree}
use Rattle.akl_model.proofs.Options.{some_value}
use Rattle.constraint_laws.specs.Touched.{IsAmong}
use Rattle.local_store.specs.Chained.{ToldBy}
use Rattle.table_laws.specs.Rows.{BoxRow}
use Rattle.table_laws.specs.Unfolds.{IsBoxRow}
use Rattle.table_laws.proofs.Frame.{row_of}
use Rattle.box_tree.specs.Tables.{all_rules, table_of, shown_in, shown_tree, shown_trees_of}
use Rattle.box_tree.specs.Views.{ViewValue, IsViewOf, is_there}
use Rattle.table_laws.proofs.StoreChains.{told_stands}
use Rattle.guard_plan.proofs.Sites.{whole_stands}
use Rattle.step_commit.specs.Cores.{CoreValue}
use Rattle.root_answers.specs.Roots.{OfRoot, root_box}
use Rattle.why_laws.specs.Watched.{Watches}
use Rattle.why_laws.specs.Waiting.{Waiting, AreWaitingAt, AreWaiting}
use Rattle.why_laws.proofs.WatchedClasses.{watched_class}
use Rattle.why_report.specs.Texts.{IsVariableText, AreWaitingLines, IsWaitingText}
use Rattle.why_report.specs.Written.{IsChainText}
use Rattle.why_report.proofs.GoalsFound.{of_root}
use Rattle.why_report.proofs.NamedTexts.{lines_as}

-- a box without a row isn't there
pub gone_root : (c : CoreValue) (root : Name) (P : Content → Goals → Type 0) → is_there (table_of c.table) (Place.Box root) ≡ false → OfRoot c root P
gone_root c root P e t b gs there =
    let r : (r : BoxRow) × ((table_of c.table).box_of root ≡ Some r) × IsBoxRow (table_of c.table) t.config.roots (root_box b gs) r = row_of (table_of c.table) t.config t.unfolds root (root_box b gs) there in
    let z : true ≡ false = sym (ap is_some r.1) ∙ e in absurd cc

all_among : (Q : Var → Type 0) (xs : List Var) → ((x : Var) → IsAmong x xs → Q x) → AllByRecursion Q xs
all_among Q [] h = tt
all_among Q (x ∷ xs) h = (h x (inl refl), all_among Q xs (λ y m. h y (inr m)))

each_watched : (p : Program) (f : Found) (Q : Var → Type 0) → ((g : Name) (x : Var) → Watches p f g x → Q x) → (ns : List Name) (ws : List Waiting) → AreWaitingAt p f ns ws → AllByRecursion (λ (w : Waiting). AllByRecursion Q w.on) ws
each_watched p f Q h [] [] a = tt
each_watched p f Q h (n ∷ ns) (w ∷ ws) a = (all_among Q w.on (λ x m. h n x (a.1.each x m).0), each_watched p f Q h ns ws a.2)
each_watched p f Q h [] (w ∷ ws) a = absurd a
each_watched p f Q h (n ∷ ns) [] a = absurd a

-- the view of a root box, with what it shows
module _ (c : CoreValue) (root : Name) (v : ViewValue) (i : IsViewOf v) (tables : v.table ≡ c.table) (journals : v.journal ≡ c.journal) (place : v.place ≡ Place.Box root) (shown : List ShownTerm)
    (terms : shown_trees_of c.table shown ≡ shown_in ((table_of c.table).box_of root)) (number : ℕ) (ws : List Waiting) (waits : OfRoot c root (λ b gs. AreWaiting c.table.program (root_box b gs) ws)) (text : List ℕ)
    (lines : AreWaitingLines (IsChainText v.table.program.templates.nodes v.stores shown) number ws text) where
  shows : OfRoot c root (λ b gs. map (shown_tree c.table.program.templates.nodes) shown ≡ b.shown)
  shows t b gs there =
      let r : (r : BoxRow) × ((table_of c.table).box_of root ≡ Some r) × IsBoxRow (table_of c.table) t.config.roots (root_box b gs) r = row_of (table_of c.table) t.config t.unfolds root (root_box b gs) there in
      terms ∙ ap shown_in r.1 ∙ r.2.shown

  stands : (b : Content) (gs : Goals) → box_at root i.table.config.roots ≡ Some (root_box b gs) → StandFor (ToldBy v.table.program.templates.nodes v.stores) (IsTold b.equations)
  stands b gs there =
      let at : box_at root i.table.config.roots ≡ Some i.site = subst (λ (q : Place). site_of q i.table.config.roots ≡ Some i.site) place i.is_site in
      let is : i.site ≡ root_box b gs = some_value (sym at ∙ there) in
      subst (λ (f : Found). StandFor (ToldBy v.table.program.templates.nodes v.stores) (IsTold (whole f))) is (StandFor-on (told_stands v.table.program.templates.nodes v.stores) (whole_stands v i))

  abbrev Written : Program → Content → Goals → Type 0
  Written p b gs = AreWaiting p (root_box b gs) ws → map (shown_tree p.templates.nodes) shown ≡ b.shown → IsWaitingText p (root_box b gs) number text

  written : (b : Content) (gs : Goals) → box_at root i.table.config.roots ≡ Some (root_box b gs) → AreWaiting v.table.program (root_box b gs) ws → map (shown_tree v.table.program.templates.nodes) shown ≡ b.shown
      → IsWaitingText v.table.program (root_box b gs) number text
  written b gs there a e = record {
    waiting = ws;
    waits = a;
    lines = lines_as (IsChainText v.table.program.templates.nodes v.stores shown) (IsVariableText b.equations b.shown) number ws text
        (each_watched v.table.program (root_box b gs) (λ (x : Var). (t : List ℕ) → IsChainText v.table.program.templates.nodes v.stores shown x t → IsVariableText b.equations b.shown x t)
        (λ g x w t k. subst (λ (ss : List ShownTree). IsVariableText b.equations ss x t) e (k b.equations (stands b gs there) (free g x w))) _ ws a) lines;
  }
    where
      free : (g : Name) (x : Var) → Watches v.table.program (root_box b gs) g x → IsStructured b.equations x → ⊥
      free g x w = (watched_class all_rules v.table.program v.table.query v.journal i.table.config i.table.replays root (root_box b gs) there refl g x w).0

  pub waiting_text : OfRoot c root (λ b gs. IsWaitingText c.table.program (root_box b gs) number text)
  waiting_text t b gs there = of_root c v tables journals i root Written (λ d hs e. written d hs e) t b gs there (waits t b gs there) (shows t b gs there)
