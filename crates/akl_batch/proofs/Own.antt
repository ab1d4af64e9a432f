-- A query is refused in one way, and its own reply says so.
use Rattle.std.proofs.Common.{◌≡◌, ℕ, List, [], ◌∷◌, map, refl, ◌⊎◌, inl, inr, arith}
use Rattle.std.specs.List.{AllZip}
use Rattle.akl_run.specs.declared.report.Refusal.{Refusal}
use Rattle.akl_run.proofs.Exact.{same_query_stop, asked_or_stopped}
use Rattle.akl_batch.specs.declared.reply.Reply.{Reply}
use Rattle.akl_batch.specs.declared.reply.Answer.{Answer}
use Rattle.akl_batch.specs.Replies.{IsRefusedFor, too_long, unloaded, HasRun, IsOwn, ran, refused, SaysRefused, AreReplies, nothing, one_more, IsAnswer}

-- a query that was run isn't refused
not_refused : {program query text : List ℕ} {budget : ℕ} {r : Reply} {f : Refusal} → HasRun program query budget r text → IsRefusedFor program query f → ⊥
not_refused h (too_long long) = let short = h.short in absurd (omega (arith, short, long))
not_refused h (unloaded s l q) = asked_or_stopped h.is_run.is_loaded.is_program l h.is_run.is_loaded.is_query q

second : {A B : Type 0} {P : Type 0} → P ⊎ (A × B) → (P → ⊥) → B
second (inl p) n = absurd (n p)
second (inr q) n = q.1

one_refusal : {program query : List ℕ} {f g : Refusal} → IsRefusedFor program query f → IsRefusedFor program query g → f ≡ g
one_refusal (too_long a) (too_long b) = refl
one_refusal (too_long a) (unloaded short l q) = absurd (omega (arith, a, short))
one_refusal (unloaded short l q) (too_long a) = absurd (omega (arith, a, short))
one_refusal (unloaded a l p) (unloaded b k q) = second (same_query_stop k l q p (λ n. n)) (λ n. n)

pub says_refused : {program query text : List ℕ} {budget : ℕ} {r : Reply} → IsOwn program query budget r text → SaysRefused program query r
says_refused (ran h) f w = absurd (not_refused h w)
says_refused (refused h) f w = (h.status, one_refusal h.why w)

-- the answers to queries are replies with their texts
pub are_replies : (program : List ℕ) (budget : ℕ) (queries : List (List ℕ)) (answers : List Answer) → AllZip (λ query answer. IsAnswer program query budget answer) queries answers
    → AreReplies program budget queries (map (λ a. a.reply) answers) (map (λ a. a.text.items) answers)
are_replies program budget [] [] z = nothing
are_replies program budget [] (a ∷ answers) z = absurd z
are_replies program budget (q ∷ queries) [] z = absurd z
are_replies program budget (q ∷ queries) (a ∷ answers) z = one_more z.0 (says_refused z.0) (are_replies program budget queries answers z.1)
