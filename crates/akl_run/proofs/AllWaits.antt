-- The texts of boxes that wait, one after another.
use Rattle.std.proofs.Common.{◌≡◌, ℕ, zero, suc, ◌+◌, ◌<◌, ◌≤◌, List, [], ◌∷◌, ◌++◌, length, take, get_or, Bool, true, false, Some, None, refl, sym, ◌∙◌, ap, subst, append_assoc, append-nil, arith}
use Rattle.std.specs.List.{AllByRecursion}
use Rattle.std.proofs.lemmas.List.{length-take-le, length-map, get_or-map, take_all}
use Rattle.std.proofs.Math.Seq.{take-suc}
use Rattle.akl_terms.specs.declared.name.Name.{Name}
use Rattle.akl_terms.specs.declared.program.Program.{Program}
use Rattle.akl_model.specs.Config.{Found, no_goals, box_at}
use Rattle.step_commit.specs.Cores.{CoreValue}
use Rattle.why_report.specs.Texts.{IsWaitingText}
use Rattle.root_answers.specs.Roots.{OfRoot, root_box}
use Rattle.akl_run.specs.declared.output.Unwritten.{Unwritten}
use Rattle.akl_run.specs.Outputs.{Outlet, HasAppended, HasBrokenOff, ShortOf}
use Rattle.akl_run.specs.Text.{AreWaits, none_waits, one_waits}
use Rattle.akl_run.specs.Written.{AreFirstWaits, HasWrittenWaits, wrote_nothing, wrote_waits, ArePartsOfWaits}
use Rattle.akl_run.proofs.Appended.{broke_later, no_memory_behind}

-- the text of one more box
waits_more : {p : Program} {n : ℕ} {fs : List Found} {text : List ℕ} (f : Found) (lines : List ℕ) → AreWaits p n fs text → IsWaitingText p f (suc (n + length fs)) lines → AreWaits p n (fs ++ f ∷ []) (text ++ lines)
waits_more {p} {n} f lines none_waits w =
    let number : n + 0 ≡ n = omega arith in
    subst (AreWaits p n (f ∷ [])) (append-nil lines) (one_waits (subst (λ (m : ℕ). IsWaitingText p f (suc m) lines) number w) none_waits)
waits_more {p} {n} f lines (one_waits {f = g} {fs = fs} {text = text} {rest = rest} v more) w =
    let number : n + suc (length fs) ≡ suc n + length fs = omega arith in
    subst (AreWaits p n (g ∷ fs ++ f ∷ [])) (sym (append_assoc text rest lines)) (one_waits v (waits_more f lines more (subst (λ (m : ℕ). IsWaitingText p f (suc m) lines) number w)))

each_at : {X : Type 0} (P : X → Type 0) (xs : List X) (i : ℕ) (d : X) → i < length xs → AllByRecursion P xs → P (get_or xs i d)
each_at P [] i d h a = absurd (omega (arith, h))
each_at P (x ∷ xs) zero d h a = a.0
each_at P (x ∷ xs) (suc i) d h a = each_at P xs i d (omega (arith, h)) a.1

pub first_none : (c : CoreValue) (names : List Name) → AreFirstWaits c names 0 []
first_none c names t others roots is = none_waits

-- the text of the next box, by its name
pub first_more : (c : CoreValue) (names : List Name) (n : ℕ) (d : Name) (text lines : List ℕ) → n < length names → AreFirstWaits c names n text
    → OfRoot c (get_or names n d) (λ b gs. IsWaitingText c.table.program (root_box b gs) (n + 1) lines) → AreFirstWaits c names (n + 1) (text ++ lines)
first_more c names n d text lines h x w t others roots is =
    let e : Found = root_box (record { name = d; frames = []; equations = []; ports = []; body = []; shown = []; collected = None }) no_goals in
    let long : length others ≡ length names = sym (length-map others (λ (g : Found). g.content.name)) ∙ ap length is in
    let inside : n < length others = omega (arith, h, long) in
    let f : Found = get_or others n e in
    let name : get_or names n d ≡ f.content.name = ap (λ (ns : List Name). get_or ns n d) (sym is) ∙ get_or-map (λ (g : Found). g.content.name) others n e d inside in
    let stands : (f ≡ root_box f.content f.goals) × (box_at f.content.name t.config.roots ≡ Some (root_box f.content f.goals)) =
    each_at (λ (g : Found). (g ≡ root_box g.content g.goals) × (box_at g.content.name t.config.roots ≡ Some (root_box g.content g.goals))) others n e inside roots in
    let waits : IsWaitingText c.table.program (root_box f.content f.goals) (n + 1) lines = w t f.content f.goals (subst (λ (m : Name). box_at m t.config.roots ≡ Some (root_box f.content f.goals)) (sym name) stands.1) in
    let count : length (take n others) ≡ n = length-take-le n others (omega (arith, inside)) in
    let number : n + 1 ≡ suc (0 + length (take n others)) = omega (arith, count) in
    let next : suc n ≡ n + 1 = omega arith in
    subst (λ (m : ℕ). AreWaits c.table.program 0 (take m others) (text ++ lines)) next
    (subst (λ (fs : List Found). AreWaits c.table.program 0 fs (text ++ lines)) (sym (take-suc others n e inside))
    (waits_more f lines (x t others roots is) (subst (λ (m : ℕ). IsWaitingText c.table.program f m lines) number (subst (λ (g : Found). IsWaitingText c.table.program g (n + 1) lines) (sym stands.0) waits))))

-- those of all
first_every : (c : CoreValue) (names : List Name) (n : ℕ) (text : List ℕ) → length names ≤ n → AreFirstWaits c names n text → AreFirstWaits c names (length names) text
first_every c names n text h x t others roots is =
    let long : length others ≡ length names = sym (length-map others (λ (g : Found). g.content.name)) ∙ ap length is in
    let all : take n others ≡ others = take_all n others (omega (arith, h, long)) in
    let every : take (length names) others ≡ others = take_all (length names) others (omega (arith, long)) in
    subst (λ (fs : List Found). AreWaits c.table.program 0 fs text) (all ∙ sym every) (x t others roots is)

-- ---- what was written of them
module _ {c : CoreValue} {names : List Name} {before : Outlet} where
  pub wrote_none : (says : Bool) → says ≡ false → HasWrittenWaits c names before before says
  wrote_none true s = absurd cc
  wrote_none false s = wrote_nothing refl

  pub wrote_all : {after : Outlet} {n : ℕ} (text : List ℕ) (says : Bool) → says ≡ true → length names ≤ n → HasAppended before after text → AreFirstWaits c names n text → HasWrittenWaits c names before after says
  wrote_all {n = n} text true s h x w = wrote_waits text x (first_every c names n text h w)
  wrote_all text false s h x w = absurd cc

  pub no_memory_there : {after : Outlet} (n : ℕ) (text : List ℕ) (says : Bool) → says ≡ true → HasAppended before after text → AreFirstWaits c names n text → HasBrokenOff (ArePartsOfWaits c names says) before after Unwritten.Memory
  no_memory_there n text says s x w = no_memory_behind text [] x (record { is_said = s; count = n; are_waits = subst (AreFirstWaits c names n) (sym (append-nil text)) w })

  pub broke_there : {middle after : Outlet} {cause : Unwritten} (n : ℕ) (text lines : List ℕ) (says : Bool) → says ≡ true → HasAppended before middle text → AreFirstWaits c names n (text ++ lines)
      → HasBrokenOff (ShortOf lines) middle after cause → HasBrokenOff (ArePartsOfWaits c names says) before after cause
  broke_there n text lines says s x w b =
      broke_later text x (λ (front rest : List ℕ) p. record {
        is_said = s;
        count = n;
        are_waits = subst (AreFirstWaits c names n) (ap (λ (xs : List ℕ). text ++ xs) (sym p.whole) ∙ sym (append_assoc text front rest)) w;
      }) b
