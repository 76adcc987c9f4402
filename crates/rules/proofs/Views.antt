-- What each step may change of the records that it saw, one row to a step: a law over steps then has a row for each step that matters to it, and one for all others. Assumes nothing.
use Rattle.std.specs.Prelude.{ℕ, ◌+◌, ◌≡◌, refl, Bool, true, false, cond, not, ◌||◌, List, eqb}
use Rattle.std.proofs.Common.{sym, ◌∙◌, ⊎_elim, true≢false}
use Rattle.std.proofs.lemmas.Bool.{false≢true}
use Rattle.rules.specs.Types.{Passage, Call, Asked, Told, Body, Message, Step, Check, SlotAt, Trip, Seen, Found}
use Rattle.rules.specs.Tables.{no_message, generation_of}
use Rattle.rules.specs.Parts.{is_free, is_empty}
use Rattle.rules.specs.Answers.{is_accepted, first_refusal, settle_of}
use Rattle.rules.specs.LoopsLaws.{either, cond_keeps, not_false}
use Rattle.rules.specs.AnswersLaws.{Fine, accepted_fine}
use Rattle.rules.proofs.FineLaws.{invoke_empty}
use Rattle.rules.specs.Stations.{tick_of, sweep_of, crash_of, recover_of}
use Rattle.rules.specs.Passages.{begin_of, abort_of, retire_of}
use Rattle.rules.specs.Rounds.{open_of, refresh_of, terminate_of, prepare_of, ask_of, close_of, tell_of}
use Rattle.rules.specs.Calls.{at_home, mail_clock, invoke_of, empty_of, deliver_call_of, deliver_phase_one_of, deliver_phase_two_of, deliver_answer_of, deliver_reply_of, deliver_body_of, drop_of}
use Rattle.rules.specs.Machine.{look_of, decide_of}
use Rattle.rules.specs.Record.{row_of, is_named, flat_of, is_step}
use Rattle.rules.specs.Runs.{acts_at_site}

-- ---- what is settled

-- accepted: what was decided, where no check holds; refused: what was seen
pub settled :
    (P : Seen → Type 0) (cs : List Check) (v : ℕ) (seen left : Seen) → (Fine cs → P left) → P seen
    → P (settle_of (record { answer = first_refusal cs v; left = left }) seen).left
settled P cs v seen left f k = ⊎_elim (λ e. rw e (f (accepted_fine cs v e))) (λ e. rw e k) (either (is_accepted (first_refusal cs v)))

-- where it is accepted, the first of the two
pub settled_accepted :
    (P : Seen → Type 0) (cs : List Check) (v : ℕ) (seen left : Seen) → (Fine cs → P left) → is_accepted (first_refusal cs v) ≡ true
    → P (settle_of (record { answer = first_refusal cs v; left = left }) seen).left
settled_accepted P cs v seen left f e = rw e (f (accepted_fine cs v e))

-- a part of what a step saw that it leaves as it was
abbrev pub Leaves : {A : Type 0} → (Seen → A) → Step → Type 0
Leaves part step = (found : Found) (seen : Seen) → part (decide_of step found seen).left ≡ part seen

same : {A : Type 0} (part : Seen → A) (cs : List Check) (v : ℕ) (seen left : Seen) → part left ≡ part seen → part (settle_of (record { answer = first_refusal cs v; left = left }) seen).left ≡ part seen
same part cs v seen left e = settled (λ x. part x ≡ part seen) cs v seen left (λ f. e) refl

-- ---- the views of a step

-- of the objects: a close and a delivery may change them
pub data Objects : Step → Type 0 where
  Closes : (h : ℕ) → Objects (Step.Close h)
  Delivers : (m : ℕ) → Objects (Step.Deliver m)
  Stay : (step : Step) → is_step 8 step ≡ false → is_step 11 step ≡ false → Leaves (λ s. s.objects) step → Objects step

-- of a slot's generation: a retire alone may change it
pub data Generation : Step → Type 0 where
  Retires : (h : ℕ) → Generation (Step.Retire h)
  Stays : (step : Step) → is_step 16 step ≡ false → Leaves (λ s. s.passage.generation) step → Generation step

-- of a visit's two marks, there and prepared
pub data Marks : Step → Type 0 where
  Begins : (home slot q r : ℕ) → Marks (Step.Begin home slot q r)
  Terminates : (h : ℕ) → Marks (Step.Terminate h)
  Prepares : (h : ℕ) → Marks (Step.Prepare h)
  Closes : (h : ℕ) → Marks (Step.Close h)
  Aborts : (h : ℕ) → Marks (Step.Abort h)
  Delivers : (m : ℕ) → Marks (Step.Deliver m)
  Stay : (step : Step) → Leaves (λ s. s.visit.there) step → Leaves (λ s. s.visit.prepared) step → Marks step

-- of what a delivered message brings: a call, a round's question, its word; an answer and a reply leave objects and visits, and an empty slot everything
pub data Mail : Body → Type 0 where
  Calls : (c : Call) → Mail (Body.Call c)
  Asks : (n : ℕ) (asked : Asked) → Mail (Body.PhaseOne n asked)
  Tells : (n : ℕ) (told : Told) → Mail (Body.PhaseTwo n told)
  Quiet :
      (body : Body) → ((m : ℕ) (seen : Seen) → (deliver_body_of body m seen).left.objects ≡ seen.objects)
      → ((m : ℕ) (seen : Seen) → (deliver_body_of body m seen).left.visit ≡ seen.visit)
      → Mail body

-- of the site's clock: a tick moves it by its number, a delivery past the message's stamp, any other step that acts by 1
pub data Clock : Step → Type 0 where
  Ticks : (site n : ℕ) → Clock (Step.Tick site n)
  Delivers :
      (m : ℕ) → ((found : Found) (seen : Seen) → is_accepted (decide_of (Step.Deliver m) found seen).answer ≡ true → (decide_of (Step.Deliver m) found seen).left.site.clock ≡ mail_clock seen)
      → Clock (Step.Deliver m)
  Moves :
      (step : Step) → acts_at_site step ≡ true → is_step 1 step ≡ false → is_step 11 step ≡ false
      → ((found : Found) (seen : Seen) → is_accepted (decide_of step found seen).answer ≡ true → (decide_of step found seen).left.site.clock ≡ seen.site.clock + 1)
      → Clock step
  Rests : (step : Step) → acts_at_site step ≡ false → Leaves (λ s. s.site) step → Clock step

-- whether a step goes through the slots of a site
pub data Goes : Step → Type 0 where
  Sweeps : (site : ℕ) → Goes (Step.Sweep site)
  Crashes : (site : ℕ) → Goes (Step.Crash site)
  Nowhere : (step : Step) → (look_of step).trip ≡ Trip.Nowhere → Goes step

-- whether a step names a handle; an accepted one has found its passage
pub data Handle : Step → Type 0 where
  Named :
      (step : Step) → (look_of step).slot ≡ SlotAt.Given (flat_of step).h
      → ((found : Found) (seen : Seen) → is_accepted (decide_of step found seen).answer ≡ true
      → (is_free seen.passage.status || not (eqb seen.passage.generation (generation_of (flat_of step).h))) ≡ false)
      → Handle step
  Nameless : (step : Step) → is_named (row_of (flat_of step).code) 8 ≡ false → Handle step

abbrev pub is_reply : Body → Bool
is_reply Body.Empty = false
is_reply (Body.Call c) = false
is_reply (Body.PhaseOne n asked) = false
is_reply (Body.PhaseTwo n told) = false
is_reply (Body.Answer n received q) = false
is_reply (Body.Reply value) = true

-- of the message slot that a step looks at: a delivery and a drop are for the message there,
-- an invoke, an ask and a tell find it empty and leave no reply, any other step leaves it
pub data Post : Step → Type 0 where
  Delivers : (m : ℕ) → Post (Step.Deliver m)
  Drops : (m : ℕ) → Post (Step.Drop m)
  Sends :
      (step : Step) → ((found : Found) (seen : Seen) → is_accepted (decide_of step found seen).answer ≡ true → is_empty seen.message.body ≡ true)
      → ((found : Found) (seen : Seen) → is_accepted (decide_of step found seen).answer ≡ true → is_reply (decide_of step found seen).left.message.body ≡ false)
      → Post step
  Stays : (step : Step) → Leaves (λ s. s.message) step → Post step

-- of calls: an invoke sends one, and no other step leaves a call in the message slot that it looks at where that call did not stand
abbrev pub is_called : Body → Bool
is_called Body.Empty = false
is_called (Body.Call c) = true
is_called (Body.PhaseOne n asked) = false
is_called (Body.PhaseTwo n told) = false
is_called (Body.Answer n received q) = false
is_called (Body.Reply value) = false

-- a call in what a decision leaves stood in what was seen
abbrev pub CallStood : Seen → Seen → Type 0
CallStood seen left = is_called left.message.body ≡ true → left.message ≡ seen.message

pub data Calling : Step → Type 0 where
  Invokes : (h site write object value : ℕ) → Calling (Step.Invoke h site write object value)
  Stands : (step : Step) → ((found : Found) (seen : Seen) → CallStood seen (decide_of step found seen).left) → Calling step

pub record Deed (step : Step) : Type 0 where
  pub objects : Objects step
  pub generation : Generation step
  pub marks : Marks step
  pub clock : Clock step
  pub post : Post step
  pub calling : Calling step
  pub goes : Goes step
  pub handle : Handle step

-- a message that goes out and is no reply
unreplied :
    (cs : List Check) (v : ℕ) (seen left : Seen) → is_reply left.message.body ≡ false → is_accepted (first_refusal cs v) ≡ true
    → is_reply (settle_of (record { answer = first_refusal cs v; left = left }) seen).left.message.body ≡ false
unreplied cs v seen left e = settled_accepted (λ s. is_reply s.message.body ≡ false) cs v seen left (λ f. e)

-- ---- deliveries, by what the slot holds

pub mail_deed : (body : Body) → Mail body
unfolding deliver_body_of empty_of deliver_answer_of deliver_reply_of
mail_deed Body.Empty = Mail.Quiet _ (λ m seen. same (λ s. s.objects) _ _ seen _ refl) (λ m seen. same (λ s. s.visit) _ _ seen _ refl)
mail_deed (Body.Call c) = Mail.Calls c
mail_deed (Body.PhaseOne n asked) = Mail.Asks n asked
mail_deed (Body.PhaseTwo n told) = Mail.Tells n told
mail_deed (Body.Answer n r q) = Mail.Quiet _ (λ m seen. same (λ s. s.objects) _ _ seen _ refl) (λ m seen. same (λ s. s.visit) _ _ seen _ refl)
mail_deed (Body.Reply value) = Mail.Quiet _ (λ m seen. same (λ s. s.objects) _ _ seen _ refl) (λ m seen. same (λ s. s.visit) _ _ seen _ refl)

pub empty_says : (b : Body) → is_empty b ≡ true → b ≡ Body.Empty
empty_says Body.Empty e = refl
empty_says (Body.Call c) e = absurd (false≢true e)
empty_says (Body.PhaseOne n asked) e = absurd (false≢true e)
empty_says (Body.PhaseTwo n told) e = absurd (false≢true e)
empty_says (Body.Answer n r q) e = absurd (false≢true e)
empty_says (Body.Reply value) e = absurd (false≢true e)

-- an empty slot is refused; any other message moves the clock past its stamp
pub delivered_clock :
    (body : Body) (m : ℕ) (seen : Seen) → seen.message.body ≡ body → is_accepted (deliver_body_of body m seen).answer ≡ true
    → (deliver_body_of body m seen).left.site.clock ≡ mail_clock seen
unfolding deliver_body_of empty_of deliver_call_of deliver_phase_one_of deliver_phase_two_of deliver_answer_of deliver_reply_of
delivered_clock Body.Empty m seen b e = settled_accepted (λ s. s.site.clock ≡ mail_clock seen) _ _ seen _ (λ f. absurd (true≢false (rw b at f.found))) e
delivered_clock (Body.Call c) m seen b e = settled_accepted (λ s. s.site.clock ≡ mail_clock seen) _ _ seen _ (λ f. refl) e
delivered_clock (Body.PhaseOne n a) m seen b e = settled_accepted (λ s. s.site.clock ≡ mail_clock seen) _ _ seen _ (λ f. refl) e
delivered_clock (Body.PhaseTwo n d) m seen b e = settled_accepted (λ s. s.site.clock ≡ mail_clock seen) _ _ seen _ (λ f. refl) e
delivered_clock (Body.Answer n r q) m seen b e = settled_accepted (λ s. s.site.clock ≡ mail_clock seen) _ _ seen _ (λ f. refl) e
delivered_clock (Body.Reply value) m seen b e = settled_accepted (λ s. s.site.clock ≡ mail_clock seen) _ _ seen _ (λ f. refl) e

-- of two passages with one generation, either has it: at home a message may give the passage another status, and no other generation
pub home_generation : (b : Bool) (x y : Passage) (g : ℕ) → x.generation ≡ g → y.generation ≡ g → (cond b x y).generation ≡ g
home_generation b x y g = cond_keeps (λ (p : Passage). p.generation ≡ g) b x y

delivered_generation : (body : Body) (m : ℕ) (seen : Seen) → (deliver_body_of body m seen).left.passage.generation ≡ seen.passage.generation
unfolding deliver_body_of empty_of deliver_call_of deliver_phase_one_of deliver_phase_two_of deliver_answer_of deliver_reply_of
delivered_generation Body.Empty m seen = same (λ s. s.passage.generation) _ _ seen _ refl
delivered_generation (Body.Call c) m seen = same (λ s. s.passage.generation) _ _ seen _ refl
delivered_generation (Body.PhaseOne n a) m seen =
    same (λ s. s.passage.generation) _ _ seen _ (home_generation (at_home seen) _ seen.passage _ refl refl)
delivered_generation (Body.PhaseTwo n d) m seen =
    same (λ s. s.passage.generation) _ _ seen _ (home_generation (at_home seen) _ seen.passage _ refl refl)
delivered_generation (Body.Answer n r q) m seen = same (λ s. s.passage.generation) _ _ seen _ refl
delivered_generation (Body.Reply value) m seen = same (λ s. s.passage.generation) _ _ seen _ refl

-- what a decision leaves where it leaves the message
stood : (cs : List Check) (v : ℕ) (seen left : Seen) → left.message ≡ seen.message → CallStood seen (settle_of (record { answer = first_refusal cs v; left = left }) seen).left
stood cs v seen left e = settled (CallStood seen) cs v seen left (λ f c. e) (λ c. refl)

-- and where it leaves no call
uncalled :
    (cs : List Check) (v : ℕ) (seen left : Seen) → is_called left.message.body ≡ false
    → CallStood seen (settle_of (record { answer = first_refusal cs v; left = left }) seen).left
uncalled cs v seen left e = settled (CallStood seen) cs v seen left (λ f c. absurd (true≢false (sym c ∙ e))) (λ c. refl)

delivered_stood : (body : Body) (m : ℕ) (seen : Seen) → CallStood seen (deliver_body_of body m seen).left
unfolding deliver_body_of empty_of deliver_call_of deliver_phase_one_of deliver_phase_two_of deliver_answer_of deliver_reply_of
delivered_stood Body.Empty m seen = stood _ _ seen _ refl
delivered_stood (Body.Call c) m seen = uncalled _ _ seen _ refl
delivered_stood (Body.PhaseOne n a) m seen =
    uncalled _ _ seen _ (cond_keeps (λ (x : Message). is_called x.body ≡ false) (at_home seen) no_message _ refl refl)
delivered_stood (Body.PhaseTwo n d) m seen = uncalled _ _ seen _ refl
delivered_stood (Body.Answer n r q) m seen = uncalled _ _ seen _ refl
delivered_stood (Body.Reply value) m seen = uncalled _ _ seen _ refl

pub deed_of : (step : Step) → Deed step
unfolding decide_of tick_of sweep_of crash_of recover_of begin_of abort_of retire_of refresh_of terminate_of prepare_of open_of ask_of close_of tell_of invoke_of drop_of
deed_of (Step.Tick site n) =
    record {
      objects = Objects.Stay _ refl refl (λ found seen. same (λ s. s.objects) _ _ seen _ refl);
      generation = Generation.Stays _ refl (λ found seen. same (λ s. s.passage.generation) _ _ seen _ refl);
      marks = Marks.Stay _ (λ found seen. same (λ s. s.visit.there) _ _ seen _ refl) (λ found seen. same (λ s. s.visit.prepared) _ _ seen _ refl);
      clock = Clock.Ticks site n;
      post = Post.Stays _ (λ found seen. same (λ s. s.message) _ _ seen _ refl);
      calling = Calling.Stands _ (λ found seen. stood _ _ seen _ refl);
      goes = Goes.Nowhere _ refl;
      handle = Handle.Nameless _ refl;
    }
deed_of (Step.Begin home slot q r) =
    record {
      objects = Objects.Stay _ refl refl (λ found seen. same (λ s. s.objects) _ _ seen _ refl);
      generation = Generation.Stays _ refl (λ found seen. same (λ s. s.passage.generation) _ _ seen _ refl);
      marks = Marks.Begins home slot q r;
      clock = Clock.Moves _ refl refl refl (λ found seen e. settled_accepted (λ s. s.site.clock ≡ seen.site.clock + 1) _ _ seen _ (λ f. refl) e);
      post = Post.Stays _ (λ found seen. same (λ s. s.message) _ _ seen _ refl);
      calling = Calling.Stands _ (λ found seen. stood _ _ seen _ refl);
      goes = Goes.Nowhere _ refl;
      handle = Handle.Nameless _ refl;
    }
deed_of (Step.Invoke h site write object value) =
    record {
      objects = Objects.Stay _ refl refl (λ found seen. same (λ s. s.objects) _ _ seen _ refl);
      generation = Generation.Stays _ refl (λ found seen. same (λ s. s.passage.generation) _ _ seen _ refl);
      marks = Marks.Stay _ (λ found seen. same (λ s. s.visit.there) _ _ seen _ refl) (λ found seen. same (λ s. s.visit.prepared) _ _ seen _ refl);
      clock = Clock.Moves _ refl refl refl (λ found seen e. settled_accepted (λ s. s.site.clock ≡ seen.site.clock + 1) _ _ seen _ (λ f. refl) e);
      post = Post.Sends _ (λ found seen e. invoke_empty h site write object value seen (accepted_fine _ _ e)) (λ found seen e. unreplied _ _ seen _ refl e);
      calling = Calling.Invokes h site write object value;
      goes = Goes.Nowhere _ refl;
      handle = Handle.Named _ refl (λ found seen e. (accepted_fine _ _ e).found);
    }
deed_of (Step.Refresh h q r) =
    record {
      objects = Objects.Stay _ refl refl (λ found seen. same (λ s. s.objects) _ _ seen _ refl);
      generation = Generation.Stays _ refl (λ found seen. same (λ s. s.passage.generation) _ _ seen _ refl);
      marks = Marks.Stay _ (λ found seen. same (λ s. s.visit.there) _ _ seen _ refl) (λ found seen. same (λ s. s.visit.prepared) _ _ seen _ refl);
      clock = Clock.Moves _ refl refl refl (λ found seen e. settled_accepted (λ s. s.site.clock ≡ seen.site.clock + 1) _ _ seen _ (λ f. refl) e);
      post = Post.Stays _ (λ found seen. same (λ s. s.message) _ _ seen _ refl);
      calling = Calling.Stands _ (λ found seen. stood _ _ seen _ refl);
      goes = Goes.Nowhere _ refl;
      handle = Handle.Named _ refl (λ found seen e. (accepted_fine _ _ e).found);
    }
deed_of (Step.Terminate h) =
    record {
      objects = Objects.Stay _ refl refl (λ found seen. same (λ s. s.objects) _ _ seen _ refl);
      generation = Generation.Stays _ refl (λ found seen. same (λ s. s.passage.generation) _ _ seen _ refl);
      marks = Marks.Terminates h;
      clock = Clock.Moves _ refl refl refl (λ found seen e. settled_accepted (λ s. s.site.clock ≡ seen.site.clock + 1) _ _ seen _ (λ f. refl) e);
      post = Post.Stays _ (λ found seen. same (λ s. s.message) _ _ seen _ refl);
      calling = Calling.Stands _ (λ found seen. stood _ _ seen _ refl);
      goes = Goes.Nowhere _ refl;
      handle = Handle.Named _ refl (λ found seen e. (accepted_fine _ _ e).found);
    }
deed_of (Step.Prepare h) =
    record {
      objects = Objects.Stay _ refl refl (λ found seen. same (λ s. s.objects) _ _ seen _ refl);
      generation = Generation.Stays _ refl (λ found seen. same (λ s. s.passage.generation) _ _ seen _ refl);
      marks = Marks.Prepares h;
      clock = Clock.Moves _ refl refl refl (λ found seen e. settled_accepted (λ s. s.site.clock ≡ seen.site.clock + 1) _ _ seen _ (λ f. refl) e);
      post = Post.Stays _ (λ found seen. same (λ s. s.message) _ _ seen _ refl);
      calling = Calling.Stands _ (λ found seen. stood _ _ seen _ refl);
      goes = Goes.Nowhere _ refl;
      handle = Handle.Named _ refl (λ found seen e. (accepted_fine _ _ e).found);
    }
deed_of (Step.Ask h site) =
    record {
      objects = Objects.Stay _ refl refl (λ found seen. same (λ s. s.objects) _ _ seen _ refl);
      generation = Generation.Stays _ refl (λ found seen. same (λ s. s.passage.generation) _ _ seen _ refl);
      marks = Marks.Stay _ (λ found seen. same (λ s. s.visit.there) _ _ seen _ refl) (λ found seen. same (λ s. s.visit.prepared) _ _ seen _ refl);
      clock = Clock.Moves _ refl refl refl (λ found seen e. settled_accepted (λ s. s.site.clock ≡ seen.site.clock + 1) _ _ seen _ (λ f. refl) e);
      post = Post.Sends _ (λ found seen e. not_false _ (accepted_fine _ _ e).room) (λ found seen e. unreplied _ _ seen _ refl e);
      calling = Calling.Stands _ (λ found seen. uncalled _ _ seen _ refl);
      goes = Goes.Nowhere _ refl;
      handle = Handle.Named _ refl (λ found seen e. (accepted_fine _ _ e).found);
    }
deed_of (Step.Close h) =
    record {
      objects = Objects.Closes h;
      generation = Generation.Stays _ refl (λ found seen. same (λ s. s.passage.generation) _ _ seen _ refl);
      marks = Marks.Closes h;
      clock = Clock.Moves _ refl refl refl (λ found seen e. settled_accepted (λ s. s.site.clock ≡ seen.site.clock + 1) _ _ seen _ (λ f. refl) e);
      post = Post.Stays _ (λ found seen. same (λ s. s.message) _ _ seen _ refl);
      calling = Calling.Stands _ (λ found seen. stood _ _ seen _ refl);
      goes = Goes.Nowhere _ refl;
      handle = Handle.Named _ refl (λ found seen e. (accepted_fine _ _ e).found);
    }
deed_of (Step.Tell h site) =
    record {
      objects = Objects.Stay _ refl refl (λ found seen. same (λ s. s.objects) _ _ seen _ refl);
      generation = Generation.Stays _ refl (λ found seen. same (λ s. s.passage.generation) _ _ seen _ refl);
      marks = Marks.Stay _ (λ found seen. same (λ s. s.visit.there) _ _ seen _ refl) (λ found seen. same (λ s. s.visit.prepared) _ _ seen _ refl);
      clock = Clock.Moves _ refl refl refl (λ found seen e. settled_accepted (λ s. s.site.clock ≡ seen.site.clock + 1) _ _ seen _ (λ f. refl) e);
      post = Post.Sends _ (λ found seen e. not_false _ (accepted_fine _ _ e).room) (λ found seen e. unreplied _ _ seen _ refl e);
      calling = Calling.Stands _ (λ found seen. uncalled _ _ seen _ refl);
      goes = Goes.Nowhere _ refl;
      handle = Handle.Named _ refl (λ found seen e. (accepted_fine _ _ e).found);
    }
deed_of (Step.Abort h) =
    record {
      objects = Objects.Stay _ refl refl (λ found seen. same (λ s. s.objects) _ _ seen _ refl);
      generation = Generation.Stays _ refl (λ found seen. same (λ s. s.passage.generation) _ _ seen _ refl);
      marks = Marks.Aborts h;
      clock = Clock.Moves _ refl refl refl (λ found seen e. settled_accepted (λ s. s.site.clock ≡ seen.site.clock + 1) _ _ seen _ (λ f. refl) e);
      post = Post.Stays _ (λ found seen. same (λ s. s.message) _ _ seen _ refl);
      calling = Calling.Stands _ (λ found seen. stood _ _ seen _ refl);
      goes = Goes.Nowhere _ refl;
      handle = Handle.Named _ refl (λ found seen e. (accepted_fine _ _ e).found);
    }
deed_of (Step.Deliver m) =
    record {
      objects = Objects.Delivers m;
      generation = Generation.Stays _ refl (λ found seen. delivered_generation seen.message.body m seen);
      marks = Marks.Delivers m;
      clock = Clock.Delivers m (λ found seen e. delivered_clock seen.message.body m seen refl e);
      post = Post.Delivers m;
      calling = Calling.Stands _ (λ found seen. delivered_stood seen.message.body m seen);
      goes = Goes.Nowhere _ refl;
      handle = Handle.Nameless _ refl;
    }
deed_of (Step.Drop m) =
    record {
      objects = Objects.Stay _ refl refl (λ found seen. same (λ s. s.objects) _ _ seen _ refl);
      generation = Generation.Stays _ refl (λ found seen. same (λ s. s.passage.generation) _ _ seen _ refl);
      marks = Marks.Stay _ (λ found seen. same (λ s. s.visit.there) _ _ seen _ refl) (λ found seen. same (λ s. s.visit.prepared) _ _ seen _ refl);
      clock = Clock.Rests _ refl (λ found seen. same (λ s. s.site) _ _ seen _ refl);
      post = Post.Drops m;
      calling = Calling.Stands _ (λ found seen. uncalled _ _ seen _ refl);
      goes = Goes.Nowhere _ refl;
      handle = Handle.Nameless _ refl;
    }
deed_of (Step.Sweep site) =
    record {
      objects = Objects.Stay _ refl refl (λ found seen. same (λ s. s.objects) _ _ seen _ refl);
      generation = Generation.Stays _ refl (λ found seen. same (λ s. s.passage.generation) _ _ seen _ refl);
      marks = Marks.Stay _ (λ found seen. same (λ s. s.visit.there) _ _ seen _ refl) (λ found seen. same (λ s. s.visit.prepared) _ _ seen _ refl);
      clock = Clock.Moves _ refl refl refl (λ found seen e. settled_accepted (λ s. s.site.clock ≡ seen.site.clock + 1) _ _ seen _ (λ f. refl) e);
      post = Post.Stays _ (λ found seen. same (λ s. s.message) _ _ seen _ refl);
      calling = Calling.Stands _ (λ found seen. stood _ _ seen _ refl);
      goes = Goes.Sweeps site;
      handle = Handle.Nameless _ refl;
    }
deed_of (Step.Crash site) =
    record {
      objects = Objects.Stay _ refl refl (λ found seen. same (λ s. s.objects) _ _ seen _ refl);
      generation = Generation.Stays _ refl (λ found seen. same (λ s. s.passage.generation) _ _ seen _ refl);
      marks = Marks.Stay _ (λ found seen. same (λ s. s.visit.there) _ _ seen _ refl) (λ found seen. same (λ s. s.visit.prepared) _ _ seen _ refl);
      clock = Clock.Moves _ refl refl refl (λ found seen e. settled_accepted (λ s. s.site.clock ≡ seen.site.clock + 1) _ _ seen _ (λ f. refl) e);
      post = Post.Stays _ (λ found seen. same (λ s. s.message) _ _ seen _ refl);
      calling = Calling.Stands _ (λ found seen. stood _ _ seen _ refl);
      goes = Goes.Crashes site;
      handle = Handle.Nameless _ refl;
    }
deed_of (Step.Recover site) =
    record {
      objects = Objects.Stay _ refl refl (λ found seen. same (λ s. s.objects) _ _ seen _ refl);
      generation = Generation.Stays _ refl (λ found seen. same (λ s. s.passage.generation) _ _ seen _ refl);
      marks = Marks.Stay _ (λ found seen. same (λ s. s.visit.there) _ _ seen _ refl) (λ found seen. same (λ s. s.visit.prepared) _ _ seen _ refl);
      clock = Clock.Moves _ refl refl refl (λ found seen e. settled_accepted (λ s. s.site.clock ≡ seen.site.clock + 1) _ _ seen _ (λ f. refl) e);
      post = Post.Stays _ (λ found seen. same (λ s. s.message) _ _ seen _ refl);
      calling = Calling.Stands _ (λ found seen. stood _ _ seen _ refl);
      goes = Goes.Nowhere _ refl;
      handle = Handle.Nameless _ refl;
    }
deed_of (Step.Retire h) =
    record {
      objects = Objects.Stay _ refl refl (λ found seen. same (λ s. s.objects) _ _ seen _ refl);
      generation = Generation.Retires h;
      marks = Marks.Stay _ (λ found seen. same (λ s. s.visit.there) _ _ seen _ refl) (λ found seen. same (λ s. s.visit.prepared) _ _ seen _ refl);
      clock = Clock.Rests _ refl (λ found seen. same (λ s. s.site) _ _ seen _ refl);
      post = Post.Stays _ (λ found seen. same (λ s. s.message) _ _ seen _ refl);
      calling = Calling.Stands _ (λ found seen. stood _ _ seen _ refl);
      goes = Goes.Nowhere _ refl;
      handle = Handle.Named _ refl (λ found seen e. (accepted_fine _ _ e).found);
    }
