-- A session so far.
use Rattle.std.proofs.Common.{◌≡◌, ℕ, true, List, [], ◌∷◌, ◌++◌, Option, Some, None, inl, inr, refl, sym, ap, subst, ◌∙◌, append_assoc, append-nil}
use Rattle.std.proofs.lemmas.Bool.{false≢true}
use Rattle.std.proofs.lemmas.List.Concat.{flat_map-append}
use Rattle.std.specs.Option.{option_to_list}
use Rattle.std.specs.List.{flat_map}
use Rattle.chr_session.specs.Devices.{Comes}
use Rattle.chr_session.specs.declared.commands.Ended.{Ended}
use Rattle.chr_session.specs.declared.commands.Received.{Received as CodeReceived}
use Rattle.chr_session.specs.declared.commands.Received.TheVariants as variants
use Rattle.chr_session.specs.Spelling.{Received, Spelling, Ending, next, SpellsFirst, received_of, goes_on, Reads}
use Rattle.chr_session.specs.Commands.{Command, Reply, Spelled}
use Rattle.chr_session.specs.Replies.{Wrote, Began, reply_bytes, answer_bytes, session_bytes}
use Rattle.chr_session.specs.Sessions.{RepliesTo, AnswerIs, Answers, Served, Broken, Unread}
use Rattle.chr_session.proofs.Written.{wrote_both, began_all, began_second}

-- a run over what was one so far, all its replies written, and the rest to come
pub record Underway {D : Type 0} (step : D → Command → Reply → D → Type 0) (old now : D) (before after left : List ℕ → Type 0) (input : List ℕ) : Type 0 where
  pub spelled : List Spelled
  pub replies : List Reply
  pub rest : List ℕ
  pub reads : Reads input spelled rest
  pub answers : Answers step old spelled replies now
  pub comes : left rest
  pub written : Wrote before after (flat_map reply_bytes replies)

reads_more : (input : List ℕ) (spelled : List Spelled) (rest : List ℕ) (one : Spelled) (tail : List ℕ) → Reads input spelled rest → next rest ≡ (Spelling one, tail) → Reads input (spelled ++ one ∷ []) tail
reads_more input [] rest one tail r e = (tail, ap next (sym r) ∙ e, refl)
reads_more input (s ∷ more) rest one tail r e = (r.0, r.1, reads_more r.0 more rest one tail r.2 e)

answers_more : {D : Type 0} (step : D → Command → Reply → D → Type 0) (spelled : List Spelled) (old : D) (replies : List Reply) (mid : D) (one : Spelled) (answer : Option Reply) (new : D) → Answers step old spelled replies mid → RepliesTo step mid one answer new → Answers step old (spelled ++ one ∷ []) (replies ++ option_to_list answer) new
answers_more step [] old replies mid one answer new r a =
    (answer, new, [], subst (λ (d : _). RepliesTo step d one answer new) r.1 a, ap (λ l. l ++ option_to_list answer) r.0 ∙ sym (append-nil (option_to_list answer)), (refl, refl))
answers_more step (s ∷ more) old replies mid one answer new r a =
    (r.0, r.1, r.2 ++ option_to_list answer, r.3, ap (λ l. l ++ option_to_list answer) r.4 ∙ append_assoc (option_to_list r.0) r.2 (option_to_list answer), answers_more step more r.1 r.2 mid one answer new r.5 a)

bytes_more : (replies : List Reply) (answer : Option Reply) → flat_map reply_bytes (replies ++ option_to_list answer) ≡ flat_map reply_bytes replies ++ answer_bytes answer
bytes_more replies None = ap (flat_map reply_bytes) (append-nil replies) ∙ sym (append-nil (flat_map reply_bytes replies))
bytes_more replies (Some r) = flat_map-append reply_bytes replies (r ∷ []) ∙ ap (λ t. flat_map reply_bytes replies ++ t) (append-nil (reply_bytes r))

pub session_begins : {D : Type 0} {left : List ℕ → Type 0} (step : D → Command → Reply → D → Type 0) (desk : D) (taken : List ℕ → Type 0) (input : List ℕ) → left input → Underway step desk desk taken taken left input
session_begins step desk taken input a = record {
  spelled = [];
  replies = [];
  rest = input;
  reads = refl;
  answers = (refl, refl);
  comes = a;
  written = record { told = λ all t. subst taken (sym (append-nil all)) t };
}

-- nothing is held back at first
pub comes_first : {left : List ℕ → Type 0} {held : List ℕ} (input : List ℕ) → held ≡ [] → left input → Comes held left input
comes_first {left} {held} input none a = record { rest = input; told = a; whole = sym (ap (λ (h : List ℕ). h ++ input) none) }

pub session_goes_on : {D : Type 0} {step : D → Command → Reply → D → Type 0} {old now new : D} {before mid after left C : List ℕ → Type 0} {input : List ℕ} (received : Received) (answer : Option Reply) → goes_on received ≡ true → ((rest : List ℕ) → left rest → SpellsFirst next received C rest) → AnswerIs step now received answer new → Wrote mid after (answer_bytes answer) → Underway step old now before mid left input → Underway step old new before after C input
session_goes_on {D} {step} {old} {now} {new} {before} {mid} {after} {left} {C} {input} (Spelling one) answer on first answered wrote underway =
    let h = first underway.rest underway.comes in
    record {
      spelled = underway.spelled ++ one ∷ [];
      replies = underway.replies ++ option_to_list answer;
      rest = h.rest;
      reads = reads_more input underway.spelled underway.rest one h.rest underway.reads h.is;
      answers = answers_more step underway.spelled old underway.replies now one answer new underway.answers answered;
      comes = h.told refl;
      written = subst (λ (t : List ℕ). Wrote before after t) (sym (bytes_more underway.replies answer)) (wrote_both underway.written wrote);
    }
session_goes_on (Ending how) answer on first answered wrote underway = absurd (false≢true on)

pub session_ends : {D : Type 0} {step : D → Command → Reply → D → Type 0} {old now new : D} {before mid after left C : List ℕ → Type 0} {input : List ℕ} (how : Ended) (answer : Option Reply) → ((rest : List ℕ) → left rest → SpellsFirst next (Ending how) C rest) → AnswerIs step now (Ending how) answer new → Wrote mid after (answer_bytes answer) → Underway step old now before mid left input → Served step old new before after how input
session_ends {D} {step} {old} {now} {new} {before} {mid} {after} {left} {C} {input} how answer first answered wrote underway =
    let h = first underway.rest underway.comes in
    record {
      spelled = underway.spelled;
      replies = underway.replies;
      spells = record { rest = underway.rest; after = h.rest; reads = underway.reads; ends = h.is };
      answers = subst (λ (d : D). Answers step old underway.spelled underway.replies d) (sym answered.1) underway.answers;
      written = subst (λ (o : Option Reply). Wrote before after (session_bytes underway.replies o)) answered.0 (wrote_both underway.written wrote);
    }

pub session_unread : {D : Type 0} {step : D → Command → Reply → D → Type 0} {old now : D} {before after left : List ℕ → Type 0} {input : List ℕ} → Underway step old now before after left input → Broken step old now before after input
session_unread {D} {step} {old} {now} {before} {after} {left} {input} underway = record {
  spelled = underway.spelled;
  replies = underway.replies;
  rest = underway.rest;
  last = None;
  reads = underway.reads;
  answers = underway.answers;
  last_is = inl refl;
  written = subst (λ (t : List ℕ). Began before after t) (sym (append-nil (flat_map reply_bytes underway.replies))) (began_all underway.written);
}

pub session_unwritten : {D : Type 0} {step : D → Command → Reply → D → Type 0} {old now new : D} {before mid after left C : List ℕ → Type 0} {input : List ℕ} (received : Received) (answer : Option Reply) → ((rest : List ℕ) → left rest → SpellsFirst next received C rest) → AnswerIs step now received answer new → Began mid after (answer_bytes answer) → Underway step old now before mid left input → Broken step old new before after input
session_unwritten {D} {step} {old} {now} {new} {before} {mid} {after} {left} {C} {input} (Spelling one) answer first answered began underway =
    let h = first underway.rest underway.comes in
    let all : Began before after (flat_map reply_bytes underway.replies ++ answer_bytes answer) = began_second underway.written began in
    record {
      spelled = underway.spelled ++ one ∷ [];
      replies = underway.replies ++ option_to_list answer;
      rest = h.rest;
      last = None;
      reads = reads_more input underway.spelled underway.rest one h.rest underway.reads h.is;
      answers = answers_more step underway.spelled old underway.replies now one answer new underway.answers answered;
      last_is = inl refl;
      written = subst (λ (t : List ℕ). Began before after t) (sym (bytes_more underway.replies answer) ∙ sym (append-nil (flat_map reply_bytes (underway.replies ++ option_to_list answer)))) all;
    }
session_unwritten {D} {step} {old} {now} {new} {before} {mid} {after} {left} {C} {input} (Ending how) answer first answered began underway =
    let h = first underway.rest underway.comes in
    record {
      spelled = underway.spelled;
      replies = underway.replies;
      rest = underway.rest;
      last = answer;
      reads = underway.reads;
      answers = subst (λ (d : D). Answers step old underway.spelled underway.replies d) (sym answered.1) underway.answers;
      last_is = inr (how, h.rest, h.is, answered.0);
      written = began_second underway.written began;
    }

pub not_ended : (h : CodeReceived) (text : List ℕ) → ((how : Ended) → h ≡ variants.Ended how → ⊥) → goes_on (received_of h text) ≡ true
not_ended (variants.Ended how) text n = absurd (n how refl)
not_ended other text n = refl

pub session_stopped : {D : Type 0} {step : D → Command → Reply → D → Type 0} {old now : D} {before after left : List ℕ → Type 0} {input : List ℕ} → Underway step old now before after left input → Unread step old now before after input
session_stopped {D} {step} {old} {now} {before} {after} {left} {input} underway = record {
  spelled = underway.spelled;
  replies = underway.replies;
  rest = underway.rest;
  reads = underway.reads;
  answers = underway.answers;
  written = subst (λ (t : List ℕ). Wrote before after t) (sym (append-nil (flat_map reply_bytes underway.replies))) underway.written;
}
