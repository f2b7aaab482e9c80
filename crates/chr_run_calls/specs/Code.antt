-- Calls and answers of the code, as the plain ones.
use Rattle.std.specs.Prelude.{List, [], ◌∷◌, map}
use Rattle.chr_calls.specs.Turns.{turn_of}
use Rattle.chr_calls.specs.Batches.{batch_of, report_of}
use Rattle.chr_run_calls.specs.declared.calls.Word.{Word as CodeWord}
use Rattle.chr_run_calls.specs.declared.calls.Word.TheVariants as word
use Rattle.chr_run_calls.specs.declared.calls.Words.{Words as CodeWords}
use Rattle.chr_run_calls.specs.declared.calls.Words.TheVariants as words
use Rattle.chr_run_calls.specs.declared.calls.Call.{Call as CodeCall}
use Rattle.chr_run_calls.specs.declared.calls.Call.TheVariants as call
use Rattle.chr_run_calls.specs.declared.calls.SeatCall.{SeatCall as CodeSeatCall}
use Rattle.chr_run_calls.specs.declared.calls.Answer.{Answer as CodeAnswer}
use Rattle.chr_run_calls.specs.declared.calls.Answer.TheVariants as answer
use Rattle.chr_run_calls.specs.Lists.{Word, Words, Call, SeatCall, Answer, Said, said}
use Rattle.chr_run_calls.specs.Lists as list

abbrev pub word_of : {Z : Type 0} → CodeWord Z → Word
word_of (word.Given j) = list.Given j
word_of word.Own = list.Own

abbrev pub words_of : {Z : Type 0} → CodeWords Z → Words
words_of (words.Given js) = list.GivenAll js.items
words_of words.Own = list.OwnBatch

abbrev pub call_of : {Z : Type 0} → CodeCall Z → Call
call_of (call.Post atoms) = list.Post atoms.items
call_of (call.PostText bytes) = list.PostText bytes.items
call_of (call.Claim t) = list.Claim t
call_of (call.Trial t) = list.Ask t
call_of (call.Report t w) = list.Report t (word_of w)
call_of (call.Fire t w) = list.Fire t (word_of w)
call_of (call.DropGoal t) = list.DropGoal t
call_of (call.PutDown t) = list.PutDown t
call_of (call.MarkStray t) = list.MarkStray t
call_of call.TakeStray = list.TakeStray
call_of (call.Batch t) = list.AskBatch t
call_of (call.ReportBatch t ws) = list.ReportBatch t (words_of ws)

abbrev pub seat_call_of : {Z : Type 0} → CodeSeatCall Z → SeatCall
seat_call_of c = record { seat = c.seat; call = call_of c.call }

abbrev pub answer_of : {Z : Type 0} → CodeAnswer Z → Answer
answer_of (answer.Post told) = list.Posted told
answer_of (answer.PostText told) = list.TextPosted told
answer_of (answer.Claim told) = list.Claimed told
answer_of (answer.Trial told) = list.Asked (turn_of told)
answer_of (answer.Report told) = list.Reported told
answer_of (answer.Fire told) = list.Fired told
answer_of (answer.DropGoal told) = list.Dropped told
answer_of (answer.PutDown told) = list.IsPutDown told
answer_of (answer.MarkStray told) = list.Marked told
answer_of (answer.TakeStray told) = list.Strayed told
answer_of (answer.Batch told) = list.BatchAsked (batch_of told)
answer_of (answer.ReportBatch told) = list.BatchReported (report_of told)
answer_of answer.NoMemory = list.NoMemory

-- calls with their answers, the latest first, after what was said so far
abbrev pub said_after : List Said → List SeatCall → List Answer → List Said
said_after so_far calls [] = so_far
said_after so_far [] (answer ∷ answers) = so_far
said_after so_far (call ∷ calls) (answer ∷ answers) =
    said_after (said call answer ∷ so_far) calls answers

abbrev pub said_by : {Z W : Type 0} → List (CodeSeatCall Z) → List (CodeAnswer W) → List Said
said_by calls answers = said_after [] (map seat_call_of calls) (map answer_of answers)
