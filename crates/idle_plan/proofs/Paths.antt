-- The boxes around a place by their depth, and the stores down to each.
use Rattle.std.proofs.Common.{◌≡◌, ℕ, zero, suc, ◌+◌, ◌-◌, ◌≤◌, ◌<◌, List, [], ◌∷◌, ◌++◌, length, take, map, Option, Some, refl, sym, ◌∙◌, ap, subst, ◌⊎◌, inl, inr, arith, append_assoc, append-nil, length-append}
use Rattle.std.specs.Prelude.{option_map}
use Rattle.akl_terms.specs.declared.name.Name.{Name}
use Rattle.akl_terms.specs.declared.name.Place.{Place}
use Rattle.akl_terms.specs.declared.term.Node.{Node}
use Rattle.akl_terms.specs.Equal.{IsTold}
use Rattle.akl_terms.specs.Standing.{StandFor}
use Rattle.akl_terms.proofs.StandingLaws.{StandFor-on}
use Rattle.akl_model.specs.Config.{IsIn, Content, Goals, Config, Found, environment, whole, box_at, site_of, home_of}
use Rattle.akl_model.specs.Wakes.{names_around, names_down_to, StandsIn}
use Rattle.akl_model.proofs.Options.{some_value, some_and, map_some}
use Rattle.akl_model.proofs.NamesKept.{box-itself}
use Rattle.akl_model.proofs.ScopesKept.{around_outside}
use Rattle.step_laws.proofs.Whereabouts.{found_in}
use Rattle.step_laws.proofs.Deeper.{Over, over, named_found, chain_at, names_snoc}
use Rattle.plan_laws.proofs.InScope.{Good}
use Rattle.plan_laws.proofs.Replayed.{good_replay}
use Rattle.plan_laws.proofs.DownTo.{stands_down, stands_around, path_to, begins_path}
use Rattle.local_store.specs.Stored.{Stored}
use Rattle.entail_test.specs.Asked.{frames_from}
use Rattle.table_laws.specs.Rows.{BoxRow, store_in, stores_along, told_in}
use Rattle.table_laws.specs.Unfolds.{IsBoxRow}
use Rattle.table_laws.proofs.Stores.{stores_join}
use Rattle.table_laws.proofs.Frame.{row_of, names_join, around_stands}
use Rattle.box_tree.specs.Tables.{all_rules, table_of}
use Rattle.box_tree.specs.Views.{ViewValue, IsViewOf}
use Rattle.table_laws.proofs.StoreChains.{told_stands}
use Rattle.guard_plan.proofs.Chains.{take_push, drop_push}
use Rattle.guard_plan.proofs.Sites.{stand, stores_path}
use Rattle.local_store.specs.Chained.{equations_of}
use Rattle.idle_plan.proofs.Listed.{AreStoresOf}
use Rattle.idle_plan.proofs.Outward.{outward}
use Rattle.stable_test.proofs.SiteReaches.{long_stores}

-- of lists

take_first : (A : List Stored) (s : Stored) (R : List Stored) → take (length A + 1) (A ++ s ∷ R) ≡ A ++ s ∷ []
take_first [] s R = refl
take_first (x ∷ A) s R = let q : suc (length A + 1) ≡ suc (length A) + 1 = omega arith in
    subst (λ (k : ℕ). take k (x ∷ (A ++ s ∷ R)) ≡ x ∷ (A ++ s ∷ [])) q (ap (λ (l : List Stored). x ∷ l) (take_first A s R))

one_of : (A B : List Stored) → 1 ≤ length A → take 1 (A ++ B) ≡ take 1 A
one_of [] B l = absurd (omega arith)
one_of (x ∷ A) B l = refl

-- what stands at a place in a list, or its end
record Cut (bs : List Content) (d : ℕ) : Type 0 where
  before : List Content
  here : Content
  rest : List Content
  parts : bs ≡ before ++ here ∷ rest
  long : length before ≡ d

cut_or_end : (bs : List Content) (d : ℕ) → d < length bs + 1 → Cut bs d ⊎ (length bs ≡ d)
cut_or_end [] zero l = inr refl
cut_or_end [] (suc d) l = absurd (omega arith)
cut_or_end (b ∷ bs) zero l = inl (record { before = []; here = b; rest = bs; parts = refl; long = refl })
cut_or_end (b ∷ bs) (suc d) l = elim (cut_or_end bs d (omega arith)) [
  | inl k ↦ inl (record { before = b ∷ k.before; here = k.here; rest = k.rest; parts = ap (λ (l : List Content). b ∷ l) k.parts; long = ap suc k.long })
  | inr e ↦ inr (ap suc e)
]

abbrev tail_of : List Content → List Content
tail_of [] = []
tail_of (x ∷ xs) = xs

head_same : (a b : Content) (A B : List Content) → a ∷ A ≡ b ∷ B → a ≡ b
head_same a b A B e = cc

-- a box that begins the rest of a path, before its end
in_front : (A : List Content) (b : Content) (R X : List Content) (y : Content) → A ++ b ∷ R ≡ X ++ y ∷ [] → length A < length X → IsIn b.name (map (λ (k : Content). k.name) X)
in_front A b R [] y e l = absurd (omega arith)
in_front [] b R (x ∷ X) y e l = inl (ap (λ (k : Content). k.name) (head_same b x R (X ++ y ∷ []) e))
in_front (a ∷ A) b R (x ∷ X) y e l = inr (in_front A b R X y (ap tail_of e) (omega arith))

in_path : (A : List Content) (b : Content) (R : List Content) → IsIn b.name (map (λ (k : Content). k.name) (A ++ b ∷ R))
in_path [] b R = inl refl
in_path (a ∷ A) b R = inr (in_path A b R)

-- how many boxes are around a place that is found
abbrev pub count_around : Place → Found → ℕ
count_around (Place.Goal g) f = length f.around + 1
count_around (Place.Box n) f = length f.around

-- a box that is the site of a place, or around it, at a depth
pub record IsDeep (c : Config) (site : Found) (d : ℕ) (m : Found) : Type 0 where
  pub there : box_at m.content.name c.roots ≡ Some m
  pub deep : length m.around ≡ d
  pub rest : List Content
  pub path : m.around ++ m.content ∷ rest ≡ site.around ++ site.content ∷ []

module _ (c : Config) (w : Good c) (site : Found) (e : box_at site.content.name c.roots ≡ Some site) where
  pub box_deep : (d : ℕ) → d < length site.around + 1 → (m : Found) × IsDeep c site d m
  box_deep d l = elim (cut_or_end site.around d l) [
    | inl k ↦
        let u : (gs : Goals) × (box_at k.here.name c.roots ≡ Some (record { around = k.before; content = k.here; goals = gs })) =
        chain_at c.roots w.stand.once site k.before k.here k.rest (found_in site.content.name c.roots site e) k.parts in (
          record { around = k.before; content = k.here; goals = u.0 },
          record {
            there = u.1;
            deep = k.long;
            rest = k.rest ++ site.content ∷ [];
            path = sym (append_assoc k.before (k.here ∷ k.rest) (site.content ∷ [])) ∙ ap (λ (bs : List Content). bs ++ site.content ∷ []) (sym k.parts);
          },
        )
    | inr q ↦ (site, record { there = e; deep = q; rest = []; path = refl })
  ]

  -- the place stands in each box around it, and each box in which it stands is one of these
  pub deep_stands : (place : Place) → site_of place c.roots ≡ Some site → (d : ℕ) (m : Found) → IsDeep c site d m → d < count_around place site → StandsIn m.content.name c.roots place
  deep_stands (Place.Goal g) i d m h l = stands_down g c.roots site m.content.name i
      (subst (λ (ns : List Name). IsIn m.content.name ns) (ap (λ (bs : List Content). map (λ (b : Content). b.name) bs) h.path ∙ names_snoc site.around site.content) (in_path m.around m.content h.rest))
  deep_stands (Place.Box n) i d m h l = stands_around n c.roots site m.content.name i (in_front m.around m.content h.rest site.around site.content h.path (subst (λ (k : ℕ). k < length site.around) (sym h.deep) l))

  path_long : (d : ℕ) (m : Found) → IsDeep c site d m → d < length site.around + 1
  path_long d m h =
      let a : length (m.around ++ m.content ∷ h.rest) ≡ length m.around + length (m.content ∷ h.rest) = length-append m.around (m.content ∷ h.rest) in
      let b : length (site.around ++ site.content ∷ []) ≡ length site.around + 1 = length-append site.around (site.content ∷ []) in
      let q : length (m.around ++ m.content ∷ h.rest) ≡ length (site.around ++ site.content ∷ []) = ap (λ (bs : List Content). length bs) h.path in
      let k : length m.around ≡ d = h.deep in
      omega (arith, a, b, q, k)

  pub stands_deep : (place : Place) → site_of place c.roots ≡ Some site → (n : Name) (m : Found) → StandsIn n c.roots place → box_at n c.roots ≡ Some m
      → IsDeep c site (length m.around) m × (length m.around < count_around place site)
  stands_deep (Place.Goal g) i n m h k =
      let p : (rest : List Content) × (m.around ++ m.content ∷ rest ≡ path_to (home_of g c.roots)) = begins_path c w (Place.Goal g) n m (inr h) k in
      let r : IsDeep c site (length m.around) m = record { there = named n m k; deep = refl; rest = p.0; path = p.1 ∙ ap path_to i } in
      (r, path_long (length m.around) m r)
    where
      named : (n : Name) (m : Found) → box_at n c.roots ≡ Some m → box_at m.content.name c.roots ≡ Some m
      named n m k = subst (λ (x : Name). box_at x c.roots ≡ Some m) (box-itself n c.roots m k) k
  stands_deep (Place.Box b) i n m h k =
      let v : (ns : List Name) × (option_map names_around (box_at b c.roots) ≡ Some ns) × IsIn n ns = some_and (IsIn n) (option_map names_around (box_at b c.roots)) h in
      let u : (x : Found) × (box_at b c.roots ≡ Some x) × (names_around x ≡ v.0) = map_some names_around (box_at b c.roots) v.0 v.1 in
      let s : u.0 ≡ site = some_value (sym u.1 ∙ i) in
      let o : Over n site c.roots = over n site c.roots (found_in b c.roots site i) (subst (λ (x : Found). IsIn n (names_around x)) s (subst (IsIn n) (sym u.2) v.2)) in
      let q : o.outer ≡ m = some_value (sym (named_found c.roots w.stand.once n o.outer o.stands o.named) ∙ k) in
      let p : site.around ≡ m.around ++ m.content ∷ o.rest = subst (λ (x : Found). site.around ≡ x.around ++ x.content ∷ o.rest) q o.path in
      let l : length site.around ≡ length m.around + length (m.content ∷ o.rest) = ap (λ (bs : List Content). length bs) p ∙ length-append m.around (m.content ∷ o.rest) in (
        record {
          there = subst (λ (x : Name). box_at x c.roots ≡ Some m) (o.named ∙ ap (λ (x : Found). x.content.name) q) k;
          deep = refl;
          rest = o.rest ++ site.content ∷ [];
          path = sym (append_assoc m.around (m.content ∷ o.rest) (site.content ∷ [])) ∙ ap (λ (bs : List Content). bs ++ site.content ∷ []) (sym p);
        },
        omega (arith, l),
      )

-- the stores of a view
module _ (v : ViewValue) (i : IsViewOf v) where
  abbrev pub good : Good i.table.config
  good = good_replay all_rules v.table.program v.table.query v.journal i.table.config i.table.replays

  abbrev nodes : List Node
  nodes = v.table.program.templates.nodes

  pub stores_long : length v.stores ≡ length i.site.around + 1
  stores_long = ap (λ (ss : List Stored). length ss) (stores_path v i ∙ ap (stores_along (table_of v.table)) (sym (names_snoc i.site.around i.site.content))) ∙ long_stores (table_of v.table) (i.site.around ++ i.site.content ∷ [])
      ∙ length-append i.site.around (i.site.content ∷ [])

  module _ (d : ℕ) (m : Found) (h : IsDeep i.table.config i.site d m) where
    abbrev around : List Stored
    around = stores_along (table_of v.table) (names_around m)

    abbrev own : Stored
    own = store_in ((table_of v.table).box_of m.content.name)

    parts : v.stores ≡ stores_along (table_of v.table) (names_around m) ++ store_in ((table_of v.table).box_of m.content.name) ∷ stores_along (table_of v.table) (map (λ (b : Content). b.name) h.rest)
    parts = stores_path v i ∙ ap (stores_along (table_of v.table)) names ∙ stores_join (table_of v.table) (names_around m) (m.content.name ∷ map (λ (b : Content). b.name) h.rest)
      where
        names : names_down_to i.site ≡ names_around m ++ m.content.name ∷ map (λ (b : Content). b.name) h.rest
        names = sym (names_snoc i.site.around i.site.content) ∙ ap (λ (bs : List Content). map (λ (b : Content). b.name) bs) (sym h.path) ∙ names_join m.around (m.content ∷ h.rest)

    long : length (stores_along (table_of v.table) (names_around m)) ≡ d
    long = long_stores (table_of v.table) m.around ∙ h.deep

    pub stores_down : take (d + 1) v.stores ≡ stores_along (table_of v.table) (names_around m) ++ store_in ((table_of v.table).box_of m.content.name) ∷ []
    stores_down = (λ j. take (sym long j + 1) (parts j)) ∙ take_first (stores_along (table_of v.table) (names_around m)) (store_in ((table_of v.table).box_of m.content.name)) (stores_along (table_of v.table) (map (λ (b : Content). b.name) h.rest))

    row : (r : BoxRow) × ((table_of v.table).box_of m.content.name ≡ Some r) × IsBoxRow (table_of v.table) i.table.config.roots m r
    row = row_of (table_of v.table) i.table.config i.table.unfolds m.content.name m h.there

    abbrev ss : List Stored
    ss = stores_along (table_of v.table) (names_around m) ++ store_in ((table_of v.table).box_of m.content.name) ∷ []

    are_stores : AreStoresOf nodes ss m
    are_stores = record {
      around = subst (λ (A : List Stored). StandFor (IsTold (equations_of nodes A)) (IsTold (environment m))) (sym (take_push around own))
          (StandFor-on (told_stands nodes around) (around_stands (table_of v.table) i.table.config (stand v i) i.table.unfolds m.content.name m h.there));
      all = StandFor-on (told_stands nodes ss) (subst (λ (A : List Stored). StandFor (IsTold (told_in nodes A)) (IsTold (whole m))) (stores_join (table_of v.table) (names_around m) (m.content.name ∷ [])) row.2.stands);
      frames = ap frames_from (drop_push around own) ∙ append-nil own.frames ∙ ap (λ (o : Option BoxRow). (store_in o).frames) row.1 ∙ row.2.frames;
      over = around_outside all_rules v.table.program v.table.query v.journal i.table.config m.content.name m i.table.replays h.there;
      outward = outward i.table.config good m.content.name m h.there;
    }

    pub stores_of : AreStoresOf nodes (take (d + 1) v.stores) m
    stores_of = subst (λ (A : List Stored). AreStoresOf nodes A m) (sym stores_down) are_stores

    -- the stores around it begin as the view's do, where there is one
    pub begins_alike : 1 ≤ d → take 1 (take (length (take (d + 1) v.stores) - 1) (take (d + 1) v.stores)) ≡ take 1 v.stores
    begins_alike l = (λ j. take 1 (take (length (stores_down j) - 1) (stores_down j))) ∙ ap (take 1) (take_push around own)
        ∙ sym (one_of around (own ∷ stores_along (table_of v.table) (map (λ (b : Content). b.name) h.rest)) (let q : length around ≡ d = long in omega (arith, q))) ∙ sym (ap (take 1) parts)
