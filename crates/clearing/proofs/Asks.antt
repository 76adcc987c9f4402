-- 3 to 5. Prepare, the questions to each station and the close: what was read stays held, and no clock comes near its end. Assumes nothing.
use Prim.Native.Nat.{ℕ, zero, suc, ◌+◌, ◌*◌, ◌≤◌, ◌<◌}
use native.Mathlib.Omega.{arith}
use Rattle.std.specs.Prelude.{◌≡◌, refl, ◌≢◌, true, cond, not, List, leb, eqb, length, Ok}
use Rattle.std.proofs.Common.{sym, ap, ◌∙◌, subst, ⊎_elim, true≢false, leb-true, le-leb, ne_eqb}
use Rattle.rules.specs.declared.tables.Kind.{Kind}
use Rattle.rules.specs.declared.tables.Phase.{Phase}
use Rattle.rules.specs.declared.tables.Status.{Status}
use Rattle.rules.specs.declared.tables.Passage.{Passage}
use Rattle.rules.specs.declared.tables.Asked.{Asked}
use Rattle.rules.specs.declared.tables.Body.{Body}
use Rattle.rules.specs.declared.tables.Message.{Message}
use Rattle.rules.specs.declared.tables.Tables.{Tables}
use Rattle.rules.specs.declared.steps.Step.{Step}
use Rattle.rules.specs.Limits.{clock_most, time_most}
use Rattle.rules.specs.LoopsLaws.{and_right, either, none_some}
use Rattle.rules.specs.Tables.{site_at, passage_at, message_at, object_site, slot_of}
use Rattle.rules.specs.Answers.{is_accepted}
use Rattle.rules.specs.Parts.{next_clock, delivery_clock}
use Rattle.rules.specs.Machine.{step_of}
use Rattle.rules.specs.StoredLaws.{Sized}
use Rattle.rules.proofs.EffectsLaws.{ClockMoves}
use Rattle.rules.proofs.EffectsRounds.{Opened, prepare_effects, AskSent, ask_effects, close_effects}
use Rattle.rules.proofs.EffectsPhases.{AskDelivered, ask_delivered_effects, AnswerDelivered, answer_delivered_effects}
use Rattle.clearing.specs.declared.way.Way.{Way}
use Rattle.clearing.specs.Question.{listed, is_to_ask, has_object_at}
use Rattle.clearing.specs.Clearing.{made, ask_one, asks_up_to, read_all, prepare_made, close_made}
use Rattle.clearing.specs.Underway.{Course, Runs, Near, Between, InFlight, Going, going_on, going_as, goes_there_and_back, stops_between, stops_in_flight, runs_on, near_on, read_on, kept_on, others_on, emptied_on, was_empty}
use Rattle.clearing.proofs.ReadsLaws.{reads_go}

module _ (course : Course) where
  abbrev h : ℕ
  h = course.handle

  abbrev home : ℕ
  home = course.home

  abbrev objects : List ℕ
  objects = course.objects

  -- ---- 3. prepare

  prepare_made_lem :
      (t : Tables) (n c : ℕ) → c < clock_most → Between course t n c
      → Going course (λ (u : Tables) (v : ℕ). Between course u n (c + 1)) (made t (Step.Prepare h))
  prepare_made_lem t n c room b =
      record {
        goes = λ v e.
            let r : Runs course t c = b.running in
            let p : Passage = passage_at t (slot_of h) in
            let o : Opened t (step_of t (Step.Prepare h)).tables h (slot_of h) p Kind.Prepare v = prepare_effects t h v r.sized e in
            let moves : ClockMoves t (step_of t (Step.Prepare h)).tables home (next_clock (site_at t home)) = rw r.lives at o.clock in
            let l : next_clock (site_at t home) ≤ c + 1 = let y : (site_at t home).clock ≤ c = r.clock in omega arith in
            record {
              running =
                  runs_on course t (Step.Prepare h) c (c + 1) home _ _ r (ap is_accepted e) moves l (omega arith) o.passage.here refl refl refl (λ _. refl);
              read = read_on course o.objects b.read;
              near = near_on course n c (c + 1) home _ b.near moves l (omega arith);
              mail = λ m. kept_on course t _ m (rw o.messages) (b.mail m);
            };
        stops = λ r e. stops_between course t n c (Step.Prepare h) r b room refl e;
      }

  -- ---- 4. a station is asked

  -- the message asks this station, and was stamped with a clock of at most c
  record Asks (s c : ℕ) (x : Message) : Type 0 where
    pub number : ℕ
    pub asked : Asked
    pub body : x.body ≡ Body.PhaseOne number asked
    pub away : s ≢ home
    pub destination : x.destination ≡ s
    pub handle : x.handle ≡ h
    pub stamp : x.stamp ≤ c

  -- the message is the answer on its way home
  record Answers (c : ℕ) (x : Message) : Type 0 where
    pub number : ℕ
    pub received : ℕ
    pub quiesce : ℕ
    pub body : x.body ≡ Body.Answer number received quiesce
    pub destination : x.destination ≡ home
    pub handle : x.handle ≡ h
    pub stamp : x.stamp ≤ c

  ask_made :
      (t : Tables) (n c s : ℕ) → c < clock_most → Between course t n c
      → Going course (λ (u : Tables) (m : ℕ). InFlight course u m n (c + 1) (Asks s (c + 1))) (made t (Step.Ask h s))
  ask_made t n c s room b =
      record {
        goes = λ v e.
            let r : Runs course t c = b.running in
            let t' : Tables = (step_of t (Step.Ask h s)).tables in
            let a : AskSent t t' h (passage_at t (slot_of h)) s v = ask_effects t h s v r.sized e in
            let moves : ClockMoves t t' home (next_clock (site_at t home)) = rw r.lives at a.sent.clock in
            let l : next_clock (site_at t home) ≤ c + 1 = let y : (site_at t home).clock ≤ c = r.clock in omega arith in
            record {
              running =
                  runs_on course t (Step.Ask h s) c (c + 1) home _ (passage_at t (slot_of h)) r (ap is_accepted e) moves l (omega arith)
                  (rw a.sent.passages) r.runs refl refl r.asks;
              read = read_on course a.sent.objects b.read;
              near = near_on course n c (c + 1) home _ b.near moves l (omega arith);
              below = a.sent.message.below;
              full = rw a.sent.message.message.here;
              says =
                  rw a.sent.message.message.here
                  (record { number = _; asked = _; body = refl; away = rw r.lives at a.sent.away; destination = refl; handle = refl; stamp = rw r.lives l });
              was = was_empty course t v (b.mail v) a.sent.message.empty;
              mail = others_on course t t' a.sent.message.message (λ j _. b.mail j);
            };
        stops = λ r e. stops_between course t n c (Step.Ask h s) r b room refl e;
      }

  ask_arrived :
      (t : Tables) (m n c s : ℕ) → c < clock_most → (site_at t s).clock ≤ c → InFlight course t m n c (Asks s c)
      → Going course (λ (u : Tables) (v : ℕ). InFlight course u m n (c + 1) (Answers (c + 1))) (made t (Step.Deliver m))
  ask_arrived t m n c s room clock f =
      record {
        goes = λ v e.
            let r : Runs course t c = f.running in
            let t' : Tables = (step_of t (Step.Deliver m)).tables in
            let says : Asks s c (message_at t m) = f.says in
            let stamp : (message_at t m).stamp ≤ c = says.stamp in
            let d : AskDelivered t t' m (message_at t m) s (slot_of h) (passage_at t (slot_of h)) says.number says.asked v =
            rw (says.destination, says.handle) at (ask_delivered_effects t m v r.sized e says.number says.asked says.body) in
            let away : s ≢ (passage_at t (slot_of h)).home = rw r.lives says.away in
            let l : delivery_clock (site_at t s) (message_at t m) ≤ c + 1 = omega arith in
            let back = d.answer away in
            record {
              running =
                  runs_on course t (Step.Deliver m) c (c + 1) s _ (passage_at t (slot_of h)) r (ap is_accepted e) d.reached.clock l (omega arith)
                  (rw (d.passages away)) r.runs refl refl r.asks;
              read = read_on course d.objects f.read;
              near = near_on course n c (c + 1) s _ f.near d.reached.clock l (omega arith);
              below = f.below;
              full = rw back.here;
              says =
                  rw back.here
                  (record { number = _; received = _; quiesce = _; body = refl; destination = r.lives; handle = says.handle; stamp = l });
              was = f.was;
              mail = others_on course t t' back f.mail;
            };
        stops = λ r e. stops_in_flight course t m n c r f room e;
      }

  answer_arrived :
      (t : Tables) (m n c : ℕ) → c < clock_most → InFlight course t m n c (Answers c)
      → Going course (λ (u : Tables) (v : ℕ). Between course u n (c + 1)) (made t (Step.Deliver m))
  answer_arrived t m n c room f =
      record {
        goes = λ v e.
            let r : Runs course t c = f.running in
            let t' : Tables = (step_of t (Step.Deliver m)).tables in
            let says : Answers c (message_at t m) = f.says in
            let stamp : (message_at t m).stamp ≤ c = says.stamp in
            let clock : (site_at t home).clock ≤ c = r.clock in
            let d : AnswerDelivered t t' m (message_at t m) home (slot_of h) (passage_at t (slot_of h)) says.number says.received says.quiesce v =
            rw (says.destination, says.handle) at
            (answer_delivered_effects t m v r.sized e says.number says.received says.quiesce says.body) in
            let l : delivery_clock (site_at t home) (message_at t m) ≤ c + 1 = omega arith in
            record {
              running =
                  runs_on course t (Step.Deliver m) c (c + 1) home _ _ r (ap is_accepted e) d.clock l (omega arith) d.passage.here r.runs refl refl r.asks;
              read = read_on course d.objects f.read;
              near = near_on course n c (c + 1) home _ f.near d.clock l (omega arith);
              mail = emptied_on course t t' d.message f.was f.mail;
            };
        stops = λ r e. stops_in_flight course t m n c r f room e;
      }

  -- a station of the list has one of the clocks that are near
  station_near : (t : Tables) (c s : ℕ) → Near course t (length objects) c → has_object_at objects s ≡ true → (site_at t s).clock ≤ c
  station_near t c s near has =
      ⊎_elim
      (λ y. leb-true _ _ y)
      (λ y.
      absurd
      (true≢false
      (sym has
      ∙ none_some (λ i. eqb (object_site (listed objects i)) s) (length objects) λ i l.
      ne_eqb (object_site (listed objects i)) s λ z.
      true≢false (sym (le-leb (site_at t s).clock c (subst (λ (k : ℕ). (site_at t k).clock ≤ c) z (near i l))) ∙ y))))
      (either (leb (site_at t s).clock c))

  ask_goes :
      (w : Way) (c s : ℕ) → c + 3 ≤ clock_most → has_object_at objects s ≡ true
      → Going course (λ (t : Tables) (v : ℕ). Between course t (length objects) c) w
      → Going course (λ (t : Tables) (v : ℕ). Between course t (length objects) (c + 1 + 1 + 1)) (ask_one h w s)
  unfolding ask_one
  ask_goes w c s room has g =
      goes_there_and_back course w (Step.Ask h s) g
      (λ v b. going_as course _ (ask_made w.tables (length objects) c s (omega arith) b) (λ m e f. (f.below, f)))
      (λ t m (f : InFlight course t m (length objects) (c + 1) (Asks s (c + 1))).
      ask_arrived t m (length objects) (c + 1) s (omega arith) (station_near t (c + 1) s f.near has) f)
      (λ t m f. answer_arrived t m (length objects) (c + 1 + 1) (omega arith) f)

  -- what bounds the clocks may be larger
  between_most : (t : Tables) (n c b : ℕ) → c ≤ b → Between course t n c → Between course t n b
  between_most t n c b l x =
      let r : Runs course t c = x.running in
      record {
        running =
            record {
              sized = r.sized;
              ranged = r.ranged;
              names = r.names;
              runs = r.runs;
              lives = r.lives;
              asks = r.asks;
              up = r.up;
              clock = let y : (site_at t home).clock ≤ c = r.clock in omega arith;
            };
        read = x.read;
        near = λ i k. let y : (site_at t (object_site (listed objects i))).clock ≤ c = x.near i k in omega arith;
        mail = x.mail;
      }

  -- a station that is asked moves a clock by 3 at most
  asks_on :
      (u : Way) (c s : ℕ) → c + 3 ≤ clock_most → Going course (λ (t : Tables) (v : ℕ). Between course t (length objects) c) u
      → Going course (λ (t : Tables) (v : ℕ). Between course t (length objects) (c + 3)) (cond (is_to_ask home objects s) (ask_one h u s) u)
  asks_on u c s room g =
      ⊎_elim
      (λ y.
      rw y
      (going_as course (ask_one h u s) (ask_goes u c s room (and_right (not (eqb s home)) (has_object_at objects s) y) g)
      (λ v e b. between_most (ask_one h u s).tables (length objects) (c + 1 + 1 + 1) (c + 3) (omega arith) b)))
      (λ y. rw y (going_as course u g (λ v e b. between_most u.tables (length objects) c (c + 3) (omega arith) b)))
      (either (is_to_ask home objects s))

  -- what bounds the clocks after the asks of n stations
  unfoldable asked_bound : ℕ → ℕ → ℕ
  asked_bound c zero = c
  asked_bound c (suc n) = asked_bound c n + 3

  asked_bound_lem : (c n : ℕ) → asked_bound c n ≡ c + 3 * n
  unfolding asked_bound
  asked_bound_lem c zero = omega arith
  asked_bound_lem c (suc n) = let e : asked_bound c n ≡ c + 3 * n = asked_bound_lem c n in omega arith

  asks_go :
      (w : Way) (c : ℕ) → c + 24 ≤ clock_most → Going course (λ (t : Tables) (v : ℕ). Between course t (length objects) c) w → (n : ℕ) → n ≤ 8
      → Going course (λ (t : Tables) (v : ℕ). Between course t (length objects) (asked_bound c n)) (asks_up_to h home objects w n)
  unfolding asks_up_to asked_bound
  asks_go w c room g zero l = g
  asks_go w c room g (suc n) l =
      let e : asked_bound c n ≡ c + 3 * n = asked_bound_lem c n in
      let r : asked_bound c n + 3 ≤ clock_most = omega arith in
      asks_on (asks_up_to h home objects w n) (asked_bound c n) n r (asks_go w c room g n (omega arith))

  -- ---- prepare and close

  module _ (below : home < 8) (begun : Going course (λ (t : Tables) (v : ℕ). Between course t 0 time_most) course.begun) where
    pub prepare_goes : Going course (λ (t : Tables) (v : ℕ). Between course t (length objects) (time_most + 1)) (prepare_made h home objects course.begun)
    prepare_goes =
        going_on course (read_all h home objects course.begun) (Step.Prepare h) (reads_go course below begun (length objects))
        (λ v e b. prepare_made_lem (read_all h home objects course.begun).tables (length objects) time_most (omega arith) b)

    -- 5. a close is accepted and the passage committed, or the check can be given up
    pub close_goes : Going course (λ (t : Tables) (v : ℕ). (passage_at t (slot_of h)).status ≡ Status.Committed) (close_made h home objects course.begun)
    close_goes =
        let asked : Way = asks_up_to h home objects (prepare_made h home objects course.begun) 8 in
        going_on course asked (Step.Close h) (asks_go (prepare_made h home objects course.begun) (time_most + 1) (omega arith) prepare_goes 8 (omega arith))
        (λ v e b.
        let bound : asked_bound (time_most + 1) 8 ≡ time_most + 1 + 3 * 8 = asked_bound_lem (time_most + 1) 8 in
        record {
          goes = λ u y. close_commits asked.tables u b.running.sized b.running.asks y;
          stops = λ r y. stops_between course asked.tables (length objects) (asked_bound (time_most + 1) 8) (Step.Close h) r b (omega arith) refl y;
        })
      where
        -- the close of a commit round commits
        close_commits :
            (t : Tables) (v : ℕ) → Sized t
            → ((passage_at t (slot_of h)).round.phase ≡ Phase.One → (passage_at t (slot_of h)).round.kind ≡ Kind.Prepare)
            → (step_of t (Step.Close h)).answer ≡ Ok v
            → (passage_at (step_of t (Step.Close h)).tables (slot_of h)).status ≡ Status.Committed
        close_commits t v z asks e =
            let c = close_effects t h v z e in
            let k : (passage_at t (slot_of h)).round.kind ≡ Kind.Prepare = asks c.phase in
            ap (λ (p : Passage). p.status) c.passage.here ∙ (rw k)
