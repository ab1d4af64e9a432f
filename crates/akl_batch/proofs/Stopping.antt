-- Why a batch stops.
use Rattle.std.proofs.Common.{◌≡◌, ◌<◌, ℕ, List, length, take, drop, subst, arith}
use Rattle.std.specs.Io.KnownBytes.{append_known}
use Rattle.std.proofs.lemmas.List.{length-take-le}
use Rattle.akl_args.specs.declared.batch.BatchOptions.{BatchOptions}
use Rattle.akl_args.specs.declared.options.WordsError.{WordsError}
use Rattle.akl_args.specs.declared.options.WordsError.TheVariants as words_errors
use Rattle.akl_args.specs.Table.{IsRefusalOf}
use Rattle.akl_args.specs.Batches.{batch_reading}
use Rattle.akl_run.specs.declared.report.Status.{Status}
use Rattle.akl_run.specs.declared.report.Refusal.{Refusal}
use Rattle.akl_run.specs.declared.stop.Stop.{Stop}
use Rattle.akl_run.specs.Loads.{no_memory}
use Rattle.akl_run.specs.Commands.{Side, HasFaulted, IsRead}
use Rattle.akl_run.specs.Stops.{IsStop, IsWordsStop}
use Rattle.akl_run.specs.Outputs.{ShortOf}
use Rattle.akl_run.proofs.Appended.{short_piece}
use Rattle.akl_run.proofs.Loading.{stops_as}
use Rattle.akl_batch.specs.declared.reply.Answer.{Answer}
use Rattle.akl_batch.specs.Batches.{IsAskedBy, WordsStop, refused, Stops, by_program}
use Rattle.akl_batch.specs.Batches as batches
use Rattle.akl_batch.specs.Steps.{StopsAs, AreAnswersOf, EndsWriting, fault}

pub words_stops : (words : List (List ℕ)) (e : WordsError) (stop : Stop) → IsRefusalOf (batch_reading words) e → IsWordsStop e stop → WordsStop words stop.status stop.refusal
words_stops words (words_errors.Missing at) stop r i = stops_as (WordsStop words) _ _ stop i (refused r)
words_stops words (words_errors.Unknown at) stop r i = stops_as (WordsStop words) _ _ stop i (refused r)
words_stops words (words_errors.Value at) stop r i = stops_as (WordsStop words) _ _ stop i (refused r)
words_stops words (words_errors.Repeated at) stop r i = stops_as (WordsStop words) _ _ stop i (refused r)
words_stops words (words_errors.Memory e) stop r i = stops_as (WordsStop words) _ _ stop i batches.no_memory

-- want of memory stops the work on any program
pub memory_stops : (program : List ℕ) (stop : Stop) → IsStop Status.NoMemory Refusal.Nothing stop → StopsAs program stop
memory_stops program stop i = stops_as (λ s f. StopsAs program (record { status = s; refusal = f })) _ _ stop i no_memory

-- want of memory stops a batch whose program was read
pub memory_stops_read : (words : List (List ℕ)) (before after : Side) (o : BatchOptions) (program : List ℕ) (stop : Stop) → IsAskedBy words o → IsRead before after program → IsStop Status.NoMemory Refusal.Nothing stop
    → Stops words before after stop.status stop.refusal
memory_stops_read words before after o program stop asked given i = stops_as (Stops words before after) _ _ stop i (by_program asked given no_memory)

-- want of memory stops a batch whose queries are answered
pub memory_stops_batch : (words : List (List ℕ)) (before after : Side) (answers : List Answer) (stop : Stop) → AreAnswersOf words before after answers → IsStop Status.NoMemory Refusal.Nothing stop → Stops words before after stop.status stop.refusal
memory_stops_batch words before after answers stop a i = memory_stops_read words before after a.options a.program stop a.asked a.given i

-- a text that was written up to a fault
pub written_to : (before after : Side) (text : List ℕ) (n : ℕ) → n < length text → after.bytes ≡ append_known before.bytes (take n text) → HasFaulted before after → EndsWriting before after text Status.WriteFault n
written_to before after text n short wrote faulted =
    let count : length (take n text) ≡ n = length-take-le n text (omega (arith, short)) in
    let piece : ShortOf text (take n text) (drop n text) = short_piece text n short in
    subst (EndsWriting before after text Status.WriteFault) count (fault (take n text) (drop n text) piece.whole piece.more wrote faulted)
