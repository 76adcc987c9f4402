-- What the steps of a round needed and left where they were accepted: refresh, terminate, prepare, ask, close and tell.
-- In each record p is the passage that stood in the handle's slot. Assumes nothing.
use Rattle.std.specs.Prelude.{ℕ, ◌+◌, ◌%◌, ◌<◌, ◌≡◌, ◌≢◌, Bool, true, false, cond, ◌||◌, List, [], ◌∷◌, eqb, get_or, Ok}
use native.Mathlib.Omega.{arith}
use Rattle.std.proofs.Math.Path.{refl, ap}
use Rattle.std.proofs.Common.{◌∙◌, ⊎_elim, leb-false, ltb-false, eqb-true}
use Rattle.std.proofs.Math.Bool.{not}
use Rattle.std.proofs.lemmas.Bool.{false≢true, eqb-false}
use Rattle.rules.specs.Types.{Object, Kind, Phase, Round, Status, Passage, Visit, Told, Body, Tables, Step, Refusal, Check, MailAt, Look, Places, Seen, Found}
use Rattle.rules.specs.Limits.{count_most}
use Rattle.rules.specs.LoopsLaws.{or_left, not_false, either, every_at}
use Rattle.rules.specs.Tables.{past_object, site_at, passage_at, visit_at, bank_at, slot_of}
use Rattle.rules.specs.Answers.{is_accepted, refuse}
use Rattle.rules.specs.Parts.{next_clock, is_active, is_running, is_aborted, is_phase_one, is_phase_two, where_there, freed, has_answered, sent_to, received_at, is_closed, answer_count, asked_of, asked_visit, told_visit, told_objects, plain_message}
use Rattle.rules.specs.Checks.{bad_site, bad_handle, bad_times, no_passage, site_down, clock_full, is_full}
use Rattle.rules.specs.Rounds.{open_checks, opened_passage, opened, open_of, refresh_of, terminate_of, prepare_of, ask_checks, sent_out, ask_body, ask_of, close_checks, round_told, closed_passage, objects_where_there, closed, close_of, tell_checks, tell_body, tell_of}
use Rattle.rules.specs.Machine.{looks_home, look_of, lowest_empty, mail_place, places_of, seen_of, decide_of, step_of}
use Rattle.rules.specs.StoredLaws.{Sized}
use Rattle.rules.proofs.StoredObjects.{each_at}
use Rattle.rules.proofs.RangesLaws.{neither}
use Rattle.rules.proofs.EffectsLaws.{OnlyPassage, OnlyVisit, OnlyObjects, ClockMoves, accepted_in_range, Done, done_at, only_passage, only_visit, only_objects, passages_stay, visits_stay, messages_stay, objects_stay, clock_moves}
use Rattle.rules.proofs.EffectsPlaces.{home_places, InUse, in_use, NewMessage, new_message_lem}

-- ---- 4. refresh, 5. terminate, 6. prepare

-- the status in which a round of this kind may be opened
abbrev pub opens : Kind → Status → Bool
opens Kind.None s = false
opens (Kind.Refresh q r) s = is_active s
opens Kind.Terminate s = is_aborted s
opens Kind.Prepare s = is_running s

pub record Opened (t t' : Tables) (h slot : ℕ) (p : Passage) (k : Kind) (v : ℕ) : Type 0 where
  pub names : InUse h p
  pub status : opens k p.status ≡ true
  pub there : (visit_at t p.home slot).there ≡ true
  pub room : p.round.number < count_most
  pub value : v ≡ p.round.number + 1
  pub clock : ClockMoves t t' p.home (next_clock (site_at t p.home))
  pub passage : OnlyPassage t t' slot (opened_passage k p (asked_visit (asked_of k) v (next_clock (site_at t p.home)) (visit_at t p.home slot)))
  pub visit : OnlyVisit t t' p.home slot (asked_visit (asked_of k) v (next_clock (site_at t p.home)) (visit_at t p.home slot))
  pub messages : t'.messages ≡ t.messages
  pub objects : t'.objects ≡ t.objects

-- what the three share
open_effects :
    (t : Tables) (step : Step) (h : ℕ) (k : Kind) (bad : Bool) (v : ℕ) → look_of step ≡ looks_home MailAt.Nowhere h
    → Sized t
    → (step_of t step).answer ≡ Ok v
    → ((found : Found) (seen : Seen) → decide_of step found seen ≡ open_of h k bad (not (opens k seen.passage.status)) seen)
    → (bad ≡ false → bad_handle h ≡ false)
    → Opened t (step_of t step).tables h (slot_of h) (passage_at t (slot_of h)) k v
unfolding open_of
open_effects t step h k bad v look z a decides handle =
    let at = ap (places_of t) look ∙ home_places t MailAt.Nowhere h (accepted_in_range t step (ap is_accepted a)) in
    let d =
    done_at t step v _ (λ seen. open_checks h bad (not (opens k seen.passage.status)) seen) (λ seen. seen.passage.round.number + 1)
    (λ seen. opened k (next_clock seen.site) seen) (ap (λ (l : Look). l.trip) look) z a at (decides _ _) in
    let w : v ≡ (passage_at t (slot_of h)).round.number + 1 = d.value in
    record {
      names = in_use h _ (handle d.fine.fields) d.fine.found;
      status = not_false _ d.fine.state;
      there = not_false _ d.fine.there;
      room = leb-false _ _ d.fine.rounds_left;
      value = w;
      clock = clock_moves d _ refl d.fine.up d.fine.clock;
      passage = rw w (only_passage d);
      visit = rw w (only_visit d);
      messages = messages_stay d refl;
      objects = objects_stay d refl;
    }

module _ (t : Tables) (h v : ℕ) (z : Sized t) where
  pub refresh_effects :
      (q r : ℕ) → (step_of t (Step.Refresh h q r)).answer ≡ Ok v
      → Opened t (step_of t (Step.Refresh h q r)).tables h (slot_of h) (passage_at t (slot_of h)) (Kind.Refresh q r) v
  unfolding decide_of refresh_of
  refresh_effects q r a =
      open_effects t (Step.Refresh h q r) h (Kind.Refresh q r) (bad_handle h || bad_times q r) v refl z a
      (λ found seen. refl)
      (or_left (bad_handle h) (bad_times q r))

  pub terminate_effects :
      (step_of t (Step.Terminate h)).answer ≡ Ok v
      → Opened t (step_of t (Step.Terminate h)).tables h (slot_of h) (passage_at t (slot_of h)) Kind.Terminate v
  unfolding decide_of terminate_of
  terminate_effects a =
      open_effects t (Step.Terminate h) h Kind.Terminate (bad_handle h) v refl z a (λ found seen. refl) (λ e. e)

  pub prepare_effects :
      (step_of t (Step.Prepare h)).answer ≡ Ok v
      → Opened t (step_of t (Step.Prepare h)).tables h (slot_of h) (passage_at t (slot_of h)) Kind.Prepare v
  unfolding decide_of prepare_of
  prepare_effects a =
      open_effects t (Step.Prepare h) h Kind.Prepare (bad_handle h) v refl z a (λ found seen. refl) (λ e. e)

-- ---- 7. ask, 9. tell: a message from home goes to another site

pub phase_one_is : (ph : Phase) → is_phase_one ph ≡ true → ph ≡ Phase.One
phase_one_is Phase.None e = absurd (false≢true e)
phase_one_is Phase.One e = refl
phase_one_is Phase.Two e = absurd (false≢true e)

phase_two_is : (ph : Phase) → is_phase_two ph ≡ true → ph ≡ Phase.Two
phase_two_is Phase.None e = absurd (false≢true e)
phase_two_is Phase.One e = absurd (false≢true e)
phase_two_is Phase.Two e = refl

pub record SentOut (t t' : Tables) (h : ℕ) (p : Passage) (site : ℕ) (body : Body) (v : ℕ) : Type 0 where
  pub names : InUse h p
  pub below : site < 8
  pub away : site ≢ p.home
  pub clock : ClockMoves t t' p.home (next_clock (site_at t p.home))
  -- the value is the message's slot
  pub message : NewMessage t t' v (plain_message body p.home site h (next_clock (site_at t p.home)))
  pub passages : t'.passages ≡ t.passages
  pub visits : t'.visits ≡ t.visits
  pub objects : t'.objects ≡ t.objects

pub record AskSent (t t' : Tables) (h : ℕ) (p : Passage) (site v : ℕ) : Type 0 where
  pub phase : p.round.phase ≡ Phase.One
  pub sent : SentOut t t' h p site (ask_body p.round) v

pub record TellSent (t t' : Tables) (h : ℕ) (p : Passage) (site v : ℕ) : Type 0 where
  pub phase : p.round.phase ≡ Phase.Two
  pub answered : has_answered p.round site ≡ true
  pub sent : SentOut t t' h p site (tell_body p.round) v

-- the checks that the two share: which state is wrong is the step's own
abbrev send_checks : ℕ → ℕ → Bool → Seen → List Check
send_checks h site wrong seen =
    refuse Refusal.BadField (bad_handle h || bad_site site) ∷ no_passage h seen ∷ site_down seen
    ∷ refuse Refusal.WrongState wrong
    ∷ clock_full (next_clock seen.site)
    ∷ refuse Refusal.Full (is_full seen)
    ∷ []

abbrev send_places : Tables → ℕ → Places
send_places t h =
    record {
      site = (passage_at t (slot_of h)).home;
      slot = slot_of h;
      bank = (passage_at t (slot_of h)).home;
      message = mail_place MailAt.Empty (lowest_empty t);
    }

sent_out_lem :
    {t t' : Tables} {v : ℕ} (h site : ℕ) (body : Body) (wrong : Bool)
    → let seen : Seen = seen_of t (send_places t h) in
    Done t t' v (send_places t h) (send_checks h site wrong seen) (send_places t h).message (sent_out body h site (next_clock seen.site) seen)
    → eqb site (passage_at t (slot_of h)).home ≡ false
    → SentOut t t' h (passage_at t (slot_of h)) site body v
sent_out_lem h site body wrong d w =
    neither {a = bad_handle h} {b = bad_site site} d.fine.fields λ b s.
    record {
      names = in_use h _ b d.fine.found;
      below = omega (arith, ltb-false);
      away = eqb-false _ _ w;
      clock = clock_moves d _ refl d.fine.up d.fine.clock;
      message = new_message_lem d refl d.value d.fine.room;
      passages = passages_stay d refl;
      visits = visits_stay d refl;
      objects = objects_stay d refl;
    }

module _ (t : Tables) (h site v : ℕ) (z : Sized t) where
  pub ask_effects :
      (step_of t (Step.Ask h site)).answer ≡ Ok v → AskSent t (step_of t (Step.Ask h site)).tables h (passage_at t (slot_of h)) site v
  unfolding decide_of ask_of
  ask_effects a =
      let at = home_places t MailAt.Empty h (accepted_in_range t (Step.Ask h site) (ap is_accepted a)) in
      let d =
      done_at t (Step.Ask h site) v _ (ask_checks h site) (λ seen. mail_place MailAt.Empty (lowest_empty t))
      (λ seen. sent_out (ask_body seen.passage.round) h site (next_clock seen.site) seen) refl z a at refl in
      neither d.fine.state λ ph w.
      record { phase = phase_one_is _ (not_false _ ph); sent = sent_out_lem h site (ask_body (passage_at t (slot_of h)).round) _ d w }

  pub tell_effects :
      (step_of t (Step.Tell h site)).answer ≡ Ok v → TellSent t (step_of t (Step.Tell h site)).tables h (passage_at t (slot_of h)) site v
  unfolding decide_of tell_of
  tell_effects a =
      let at = home_places t MailAt.Empty h (accepted_in_range t (Step.Tell h site) (ap is_accepted a)) in
      let d =
      done_at t (Step.Tell h site) v _ (tell_checks h site) (λ seen. mail_place MailAt.Empty (lowest_empty t))
      (λ seen. sent_out (tell_body seen.passage.round) h site (next_clock seen.site) seen) refl z a at refl in
      let r : Round = (passage_at t (slot_of h)).round in
      neither {a = not (is_phase_two r.phase) || not (has_answered r (site % 8))} d.fine.state λ e w.
      neither {a = not (is_phase_two r.phase)} e λ ph n.
      let sent : SentOut t (step_of t (Step.Tell h site)).tables h (passage_at t (slot_of h)) site (tell_body r) v =
      sent_out_lem h site (tell_body r) _ d w in
      let below : site < 8 = sent.below in
      let i : site ≡ site % 8 = omega arith in
      record { phase = phase_two_is _ (not_false _ ph); answered = ap (has_answered r) i ∙ not_false _ n; sent = sent }

-- ---- 8. close

-- what a phase 2 does to an object of the visit's site
abbrev pub told_object : Told → ℕ → Object → Object
told_object (Told.Refresh q) p o = o
told_object (Told.Terminate m) p o = o
told_object Told.Prepare p o = freed p o

pub told_object_at :
    (told : Told) (p : ℕ) (os : List Object) (i : ℕ) → i < 4
    → get_or (told_objects told p os) i past_object ≡ told_object told p (get_or os i past_object)
told_object_at (Told.Refresh q) p os i l = refl
told_object_at (Told.Terminate m) p os i l = refl
told_object_at Told.Prepare p os i l = each_at (freed p) os i l

-- the calls sent to each site are the calls that it received
pub closed_sums : (r : Round) → is_closed r ≡ true → (d : ℕ) → d < 8 → sent_to r d ≡ received_at r d
unfolding is_closed
closed_sums r e d l = eqb-true _ _ (every_at (λ d. eqb (sent_to r d) (received_at r d)) 8 e d l)

pub record Closed (t t' : Tables) (h slot : ℕ) (p : Passage) (told : Told) (v : ℕ) : Type 0 where
  pub names : InUse h p
  pub phase : p.round.phase ≡ Phase.One
  pub balanced : is_closed p.round ≡ true
  pub value : v ≡ answer_count p.round
  pub clock : ClockMoves t t' p.home (next_clock (site_at t p.home))
  pub passage : OnlyPassage t t' slot (closed_passage told p)
  -- home's part is done where the home visit is still there
  pub visit : OnlyVisit t t' p.home slot (where_there (visit_at t p.home slot) (told_visit told (visit_at t p.home slot)))
  pub objects : OnlyObjects t t' p.home (λ o. cond (visit_at t p.home slot).there (told_object told slot o) o)
  pub messages : t'.messages ≡ t.messages

pub close_effects :
    (t : Tables) (h v : ℕ) → Sized t → (step_of t (Step.Close h)).answer ≡ Ok v
    → Closed t (step_of t (Step.Close h)).tables h (slot_of h) (passage_at t (slot_of h)) (round_told (passage_at t (slot_of h)).round) v
unfolding decide_of close_of
close_effects t h v z a =
    let at = home_places t MailAt.Nowhere h (accepted_in_range t (Step.Close h) (ap is_accepted a)) in
    let d =
    done_at t (Step.Close h) v _ (close_checks h) (λ seen. answer_count seen.passage.round)
    (λ seen. closed (round_told seen.passage.round) (slot_of h) (next_clock seen.site) seen) refl z a at refl in
    let p : Passage = passage_at t (slot_of h) in
    record {
      names = in_use h _ d.fine.fields d.fine.found;
      phase = phase_one_is _ (not_false _ d.fine.state);
      balanced = not_false _ d.fine.closed;
      value = d.value;
      clock = clock_moves d _ refl d.fine.up d.fine.clock;
      passage = only_passage d;
      visit = only_visit d;
      objects = only_objects d _ (where_there_at (round_told p.round) (visit_at t p.home (slot_of h)) (slot_of h) (bank_at t p.home));
      messages = messages_stay d refl;
    }
  where
    where_there_at :
        (told : Told) (v : Visit) (p : ℕ) (os : List Object) (i : ℕ) → i < 4
        → get_or (objects_where_there v (told_objects told p os) os) i past_object
        ≡ cond v.there (told_object told p (get_or os i past_object)) (get_or os i past_object)
    where_there_at told v p os i l =
        ⊎_elim (λ e. rw e (told_object_at told p os i l)) (λ e. rw e) (either v.there)
