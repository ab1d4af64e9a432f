-- Answers that were put in the places of their queries.
use Rattle.std.proofs.Common.{◌≡◌, ◌<◌, ℕ, List, [], ◌∷◌, ◌++◌, ◌+◌, length, map, take, get_or, Option, Some, None, IfSome, Result, Ok, Err, IfOk, IfErr, Vec, Global, sym, ap, subst, ◌∙◌, arith}
use Rattle.std.specs.List.{All, AllZip, slice_get}
use Rattle.std.specs.Result.{IsErrAnd}
use Rattle.std.proofs.lemmas.List.{take_more}
use Rattle.std.proofs.lemmas.Option.{slice_get_within}
use Rattle.std.proofs.lemmas.Slice.Zip.{AllZip-long, all_zipped_more}
use Rattle.std.proofs.lemmas.List.Elements.{All-weaker}
use Rattle.std.proofs.Math.ListN.{set}
use Rattle.akl_args.specs.Queries.{queries_in}
use Rattle.akl_run.specs.declared.stop.Stop.{Stop}
use Rattle.akl_batch.specs.declared.sharing.Answered.{Answered}
use Rattle.akl_batch.specs.declared.reply.Answer.{Answer}
use Rattle.akl_batch.specs.Replies.{IsAnswer}
use Rattle.akl_batch.specs.Steps.{AreAnswers, IsAnswered, IsPart, FitPlaces, StopsAs, IsPartWithin, PutsInto, GathersInto, StopsOneOf}
use Rattle.akl_batch.proofs.Places.{zip_set, zip_at, zip_none, zip_map, all_front, all_next}

pub puts_none : (places : List (Option Answer)) → PutsInto [] places places
puts_none places program queries budget all fit = fit

pub puts_more : (answered : List Answered) (a : Answered) (old middle new : List (Option Answer)) → PutsInto answered old middle → new ≡ set middle a.at (Some a.answer) → PutsInto (answered ++ a ∷ []) old new
puts_more answered a old middle new puts is program queries budget all fit =
    let one : IsAnswered program queries budget a = all_next (IsAnswered program queries budget) answered a [] all in
    let before : FitPlaces program queries budget middle = puts program queries budget (all_front (IsAnswered program queries budget) answered (a ∷ []) all) fit in
    subst (FitPlaces program queries budget) (sym is)
    (zip_set (λ query place. IfSome place (IsAnswer program query.items budget)) queries middle a.at one.query (Some a.answer) one.at one.answer before)

pub gathers_none : (places : List (Option Answer)) → GathersInto [] places places
gathers_none places program queries budget all fit = fit

-- the answers of a part
answers_in : {program : List ℕ} {queries : List (Vec ℕ Global)} {budget : ℕ} {r : Result (Vec Answered Global) Stop} {v : Vec Answered Global} → r ≡ Ok v → IsPart program queries budget r → All (IsAnswered program queries budget) v.items
answers_in {program} {queries} {budget} e h = subst (λ (r : Result (Vec Answered Global) Stop). IfOk r (λ v. All (IsAnswered program queries budget) v.items)) e h.answered

stop_in : {program : List ℕ} {queries : List (Vec ℕ Global)} {budget : ℕ} {r : Result (Vec Answered Global) Stop} {stop : Stop} → r ≡ Err stop → IsPart program queries budget r → StopsAs program stop
stop_in {program} e h = subst (λ (r : Result (Vec Answered Global) Stop). IfErr r (StopsAs program)) e h.stop

pub gathers_more : (parts : List (Result (Vec Answered Global) Stop)) (r : Result (Vec Answered Global) Stop) (v : Vec Answered Global) (old middle new : List (Option Answer)) → r ≡ Ok v → GathersInto parts old middle → PutsInto v.items middle new
    → GathersInto (parts ++ r ∷ []) old new
gathers_more parts r v old middle new e gathers puts program queries budget all fit =
    puts program queries budget (answers_in e (all_next (IsPart program queries budget) parts r [] all))
    (gathers program queries budget (all_front (IsPart program queries budget) parts (r ∷ []) all) fit)

pub stops_one : (parts : List (Result (Vec Answered Global) Stop)) (r : Result (Vec Answered Global) Stop) (rest : List (Result (Vec Answered Global) Stop)) (stop : Stop) → r ≡ Err stop → StopsOneOf (parts ++ r ∷ rest) stop
stops_one parts r rest stop e program queries budget all = stop_in e (all_next (IsPart program queries budget) parts r rest all)

-- a worker that stopped gives no answers
pub stopped_part : (program : List ℕ) (queries : List (Vec ℕ Global)) (budget : ℕ) {P : Stop → Type 0} (r : Result (Vec Answered Global) Stop) → IsErrAnd r P → ((stop : Stop) → P stop → StopsAs program stop) → IsPart program queries budget r
stopped_part program queries budget (Ok v) h f = absurd h
stopped_part program queries budget (Err stop) h f = record { answered = tt; stop = f stop h }

-- the numbers of answers to queries are below the number of places that fit these
part_within : (program : List ℕ) (queries : List (Vec ℕ Global)) (budget count : ℕ) → count ≡ length queries → (r : Result (Vec Answered Global) Stop) → IsPart program queries budget r → IsPartWithin count r
part_within program queries budget count n (Err stop) h = tt
part_within program queries budget count n (Ok v) h =
    All-weaker (IsAnswered program queries budget) (λ (a : Answered). a.at < count) (λ a i. let l : a.at < length queries = slice_get_within queries a.at i.query i.at in omega (arith, l, n)) v.items h.answered

pub parts_within : (program : List ℕ) (queries : List (Vec ℕ Global)) (budget count : ℕ) → count ≡ length queries → (parts : List (Result (Vec Answered Global) Stop)) → All (IsPart program queries budget) parts → All (IsPartWithin count) parts
parts_within program queries budget count n parts h = All-weaker (IsPart program queries budget) (IsPartWithin count) (part_within program queries budget count n) parts h

-- there are as many places as queries
pub places_count : (program : List ℕ) (queries : List (Vec ℕ Global)) (budget : ℕ) (places : List (Option Answer)) → FitPlaces program queries budget places → length places ≡ length queries
places_count program queries budget places fit = AllZip-long (λ query place. IfSome place (IsAnswer program query.items budget)) queries places fit

-- ---- the answers in order

-- places of which none has an answer
pub places_none : (program : List ℕ) (queries : List (Vec ℕ Global)) (budget : ℕ) (places : List (Option Answer)) → length places ≡ length queries → All (λ place. place ≡ None) places → FitPlaces program queries budget places
places_none program queries budget places n none = zip_none (λ query answer. IsAnswer program query.items budget answer) queries places n none

-- an answer that is taken out of its place
pub taken_answer : (program : List ℕ) (queries : List (Vec ℕ Global)) (budget : ℕ) (places : List (Option Answer)) (at : ℕ) (query : Vec ℕ Global) (place : Option Answer) (a : Answer) → FitPlaces program queries budget places
    → slice_get queries at ≡ Some query → slice_get places at ≡ Some place → place ≡ Some a → IsAnswer program query.items budget a
taken_answer program queries budget places at query place a fit q p is =
    subst (λ (o : Option Answer). IfSome o (IsAnswer program query.items budget)) is
    (zip_at (λ query place. IfSome place (IsAnswer program query.items budget)) queries places at query place q p fit)

-- the places that are left then
pub places_left : (program : List ℕ) (queries : List (Vec ℕ Global)) (budget : ℕ) (places : List (Option Answer)) (at : ℕ) (query : Vec ℕ Global) (place : Option Answer) → FitPlaces program queries budget places
    → slice_get queries at ≡ Some query → place ≡ None → FitPlaces program queries budget (set places at place)
places_left program queries budget places at query place fit q is =
    zip_set (λ query place. IfSome place (IsAnswer program query.items budget)) queries places at query place q (subst (λ (o : Option Answer). IfSome o (IsAnswer program query.items budget)) (sym is) tt) fit

-- one more answer
pub more_answers : (program : List ℕ) (queries : List (Vec ℕ Global)) (budget at : ℕ) (query : Vec ℕ Global) (answers : List Answer) (a : Answer) → at < length queries → query ≡ get_or queries at query
    → AreAnswers program (take at queries) budget answers → IsAnswer program query.items budget a → AreAnswers program (take (at + 1) queries) budget (answers ++ a ∷ [])
more_answers program queries budget at query answers a inside is before one =
    subst (λ (qs : List (Vec ℕ Global)). AreAnswers program qs budget (answers ++ a ∷ [])) (sym (take_more queries at query inside ∙ ap (λ (q : Vec ℕ Global). take at queries ++ q ∷ []) (sym is)))
    (all_zipped_more (λ query answer. IsAnswer program query.items budget answer) (take at queries) answers query a before one)

-- the answers to the queries of a text
pub answers_of_text : (program : List ℕ) (queries : List (Vec ℕ Global)) (budget : ℕ) (answers : List Answer) (text : List ℕ) → map (λ query. query.items) queries ≡ queries_in text → AreAnswers program queries budget answers
    → AllZip (λ query answer. IsAnswer program query budget answer) (queries_in text) answers
answers_of_text program queries budget answers text e h =
    subst (λ (qs : List (List ℕ)). AllZip (λ query answer. IsAnswer program query budget answer) qs answers) e (zip_map (λ query answer. IsAnswer program query budget answer) (λ query. query.items) queries answers h)
