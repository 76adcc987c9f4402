-- Steps that open a round keep the invariant: refresh, terminate, prepare. Assumes nothing.
use Rattle.std.specs.Prelude.{ℕ, ◌+◌, ◌%◌, ◌<◌, ◌≤◌, ◌≡◌, refl, ◌≢◌, ◌⊎◌, Bool, true, false, not, ◌||◌}
use Rattle.std.proofs.Common.{arith, sym, ap, ◌∙◌, subst, inl, inr, true≢false}
use Rattle.std.proofs.lemmas.Bool.{false≢true}
use Rattle.rules.specs.LoopsLaws.{or_right, not_false}
use Rattle.rules.specs.Tables.{site_at, passage_at, message_at}
use Rattle.rules.specs.AnswersLaws.{Fine}
use Rattle.rules.specs.Checks.{bad_handle, bad_times}
use Rattle.rules.specs.Parts.{is_over, is_active, is_running, is_aborted, next_clock, asked_of, asked_visit, asked_status}
use Rattle.rules.specs.Rounds.{open_checks, opened_passage, open_done}
use Rattle.rules.specs.Machine.{looks_home, places_of, seen_of}
use Rattle.rules.specs.declared.looking.MailAt.{MailAt}
use Rattle.runs.specs.Types.{Kind, Status, Tables}
use Rattle.runs.specs.Walk.Says.{is_refresh}
use Rattle.runs.specs.Walk.Put.{put, put_same}
use Rattle.runs.specs.Times.View.{View, Ledger, view_of, ledger_noted}
use Rattle.runs.specs.Times.Clauses.{Holds}
use Rattle.runs.proofs.Kept.Open.{holds_after_opened}
use Rattle.runs.proofs.Kept.Times.{asked_says}
use Rattle.runs.proofs.Times.Store.{left_view, Fitting, noted_there}
use Rattle.runs.proofs.Fits.Shared.{moved, holds_after_moved, holds_after_news, mail_back, not_free}
use Rattle.runs.proofs.Fits.Life.{times_say}

-- ---- opening a round

-- what the three kinds ask of the status that they meet
pub record Opening (kind : Kind) (s : Status) : Type 0 where
  pub used : asked_status (asked_of kind) s ≢ Status.Free
  pub times : (q r : ℕ) → kind ≡ Kind.Refresh q r → q ≤ r
  pub fits : (is_over s ≡ false) ⊎ ((asked_status (asked_of kind) s ≡ s) × (kind ≡ Kind.Terminate))
  pub aborted : kind ≡ Kind.Terminate → asked_status (asked_of kind) s ≡ Status.Aborted

-- at home itself
open_home :
    (w : View) (l : Ledger) (k c source : ℕ) (kind : Kind) → Holds w l → w.clock w.passage.home ≤ c
    → (w.visit w.passage.home).there ≡ true → Opening kind w.passage.status
    → Holds
    (left_view
    w
    w.passage.home
    k
    (opened_passage kind w.passage (asked_visit (asked_of kind) (w.passage.round.number + 1) c (w.visit w.passage.home)))
    (asked_visit (asked_of kind) (w.passage.round.number + 1) c (w.visit w.passage.home))
    c
    (w.mail k))
    (ledger_noted l w.passage.home source (asked_visit (asked_of kind) (w.passage.round.number + 1) c (w.visit w.passage.home)))
open_home w l k c source kind h i there o =
    mail_back
    w
    w.passage.home
    k
    c
    _
    _
    (w.mail k)
    _
    refl
    (subst
    (λ (d : ℕ).
    Holds
    (record {
      passage =
          opened_passage kind w.passage (asked_visit (asked_of kind) (w.passage.round.number + 1) d (w.visit w.passage.home));
      visit =
          put w.visit w.passage.home (asked_visit (asked_of kind) (w.passage.round.number + 1) d (w.visit w.passage.home));
      clock = put w.clock w.passage.home c;
      mail = w.mail;
    })
    (ledger_noted l w.passage.home source (asked_visit (asked_of kind) (w.passage.round.number + 1) d (w.visit w.passage.home))))
    (put_same w.clock w.passage.home c)
    (rw
    (noted_there
    l
    w.passage.home
    source
    (asked_visit
    (asked_of kind)
    (w.passage.round.number + 1)
    (put w.clock w.passage.home c w.passage.home)
    (w.visit w.passage.home))
    ((asked_says (asked_of kind) _ _ (w.visit w.passage.home)).there ∙ there)
    (h.mirror w.passage.home there).0)
    (holds_after_opened
    (moved w w.passage.home c)
    l
    kind
    (holds_after_moved w l w.passage.home c h i)
    there
    o.used
    o.times
    o.fits
    o.aborted)))

-- at the acting site, which is home
open_left :
    (w : View) (l : Ledger) (a k source : ℕ) (clock : ℕ → ℕ) (kind : Kind) → Holds w l → w.clock a ≤ clock a
    → a ≡ w.passage.home → (w.visit a).there ≡ true → Opening kind w.passage.status
    → Holds
    (left_view
    w
    a
    k
    (opened_passage kind w.passage (asked_visit (asked_of kind) (w.passage.round.number + 1) (clock a) (w.visit a)))
    (asked_visit (asked_of kind) (w.passage.round.number + 1) (clock a) (w.visit a))
    (clock a)
    (w.mail k))
    (ledger_noted l a source (asked_visit (asked_of kind) (w.passage.round.number + 1) (clock a) (w.visit a)))
open_left w l a k source clock kind h i e there o =
    subst
    (λ (x : ℕ).
    Holds
    (left_view
    w
    x
    k
    (opened_passage kind w.passage (asked_visit (asked_of kind) (w.passage.round.number + 1) (clock x) (w.visit x)))
    (asked_visit (asked_of kind) (w.passage.round.number + 1) (clock x) (w.visit x))
    (clock x)
    (w.mail k))
    (ledger_noted l x source (asked_visit (asked_of kind) (w.passage.round.number + 1) (clock x) (w.visit x))))
    (sym e)
    (open_home
    w
    l
    k
    (clock w.passage.home)
    source
    kind
    h
    (subst (λ (x : ℕ). w.clock x ≤ clock x) e i)
    (subst (λ (x : ℕ). (w.visit x).there ≡ true) e there)
    o)

pub fitting_after_open :
    (t : Tables) (h : ℕ) (kind : Kind) (bad wrong : Bool)
    → Fine (open_checks h bad wrong (seen_of t (places_of t (looks_home MailAt.Nowhere h))))
    → Opening kind (passage_at t (h % 16)).status
    → Fitting
    t
    (places_of t (looks_home MailAt.Nowhere h))
    (open_done h kind bad wrong (seen_of t (places_of t (looks_home MailAt.Nowhere h)))).left
unfolding places_of
fitting_after_open t h kind bad wrong fine o =
    record {
      clock = omega arith;
      mail = inl refl;
      own =
          λ l y.
          holds_after_news
          _
          _
          _
          refl
          (open_left
          (view_of t (h % 16))
          l
          ((passage_at t (h % 16)).home % 8)
          0
          (message_at t 0).source
          (λ s. next_clock (site_at t s))
          kind
          y
          (omega arith)
          (let i : (passage_at t (h % 16)).home < 8 = y.passage.home in omega arith)
          (not_false _ fine.there)
          o);
    }

-- ---- what each kind's own check gives

refresh_opens : (s : Status) (q r : ℕ) → q ≤ r → is_active s ≡ true → Opening (Kind.Refresh q r) s
refresh_opens Status.Active q r i e =
    record {
      used = not_free Status.Active refl;
      times = λ x y z. same x y z;
      fits = inl refl;
      aborted = λ z. absurd (true≢false (ap is_refresh z));
    }
  where
    q_of : Kind → ℕ
    q_of Kind.None = 0
    q_of (Kind.Refresh x y) = x
    q_of Kind.Terminate = 0
    q_of Kind.Prepare = 0

    r_of : Kind → ℕ
    r_of Kind.None = 0
    r_of (Kind.Refresh x y) = y
    r_of Kind.Terminate = 0
    r_of Kind.Prepare = 0

    same : (x y : ℕ) → Kind.Refresh q r ≡ Kind.Refresh x y → x ≤ y
    same x y z = let a : q ≡ x = ap q_of z in let b : r ≡ y = ap r_of z in omega arith
refresh_opens Status.Free q r i e = absurd (false≢true e)
refresh_opens Status.Committing q r i e = absurd (false≢true e)
refresh_opens Status.Aborted q r i e = absurd (false≢true e)
refresh_opens Status.Committed q r i e = absurd (false≢true e)

terminate_opens : (s : Status) → is_aborted s ≡ true → Opening Kind.Terminate s
terminate_opens Status.Aborted e =
    record {
      used = not_free Status.Aborted refl;
      times = λ q r z. absurd (false≢true (ap is_refresh z));
      fits = inr (refl, refl);
      aborted = λ z. refl;
    }
terminate_opens Status.Free e = absurd (false≢true e)
terminate_opens Status.Active e = absurd (false≢true e)
terminate_opens Status.Committing e = absurd (false≢true e)
terminate_opens Status.Committed e = absurd (false≢true e)

running_over : (s : Status) → is_running s ≡ true → is_over s ≡ false
running_over Status.Free e = refl
running_over Status.Active e = refl
running_over Status.Committing e = refl
running_over Status.Aborted e = absurd (false≢true e)
running_over Status.Committed e = absurd (false≢true e)

prepare_opens : (s : Status) → is_running s ≡ true → Opening Kind.Prepare s
prepare_opens s e =
    record {
      used = not_free Status.Committing refl;
      times = λ q r z. absurd (false≢true (ap is_refresh z));
      fits = inl (running_over s e);
      aborted = λ z. absurd (true≢false (ap is_prepare z));
    }
  where
    is_prepare : Kind → Bool
    is_prepare Kind.None = false
    is_prepare (Kind.Refresh q r) = false
    is_prepare Kind.Terminate = false
    is_prepare Kind.Prepare = true

pub fitting_after_refresh :
    (t : Tables) (h q r : ℕ)
    → Fine
    (open_checks
    h
    (bad_handle h || bad_times q r)
    (not (is_active (seen_of t (places_of t (looks_home MailAt.Nowhere h))).passage.status))
    (seen_of t (places_of t (looks_home MailAt.Nowhere h))))
    → Fitting
    t
    (places_of t (looks_home MailAt.Nowhere h))
    (open_done
    h
    (Kind.Refresh q r)
    (bad_handle h || bad_times q r)
    (not (is_active (seen_of t (places_of t (looks_home MailAt.Nowhere h))).passage.status))
    (seen_of t (places_of t (looks_home MailAt.Nowhere h)))
    ).left
unfolding places_of
fitting_after_refresh t h q r f =
    fitting_after_open
    t
    h
    (Kind.Refresh q r)
    _
    _
    f
    (refresh_opens (passage_at t (h % 16)).status q r (times_say q r (or_right (bad_handle h) _ f.fields)) (not_false _ f.state))

pub fitting_after_terminate :
    (t : Tables) (h : ℕ)
    → Fine
    (open_checks
    h
    (bad_handle h)
    (not (is_aborted (seen_of t (places_of t (looks_home MailAt.Nowhere h))).passage.status))
    (seen_of t (places_of t (looks_home MailAt.Nowhere h))))
    → Fitting
    t
    (places_of t (looks_home MailAt.Nowhere h))
    (open_done
    h
    Kind.Terminate
    (bad_handle h)
    (not (is_aborted (seen_of t (places_of t (looks_home MailAt.Nowhere h))).passage.status))
    (seen_of t (places_of t (looks_home MailAt.Nowhere h)))
    ).left
unfolding places_of
fitting_after_terminate t h f =
    fitting_after_open t h Kind.Terminate _ _ f (terminate_opens (passage_at t (h % 16)).status (not_false _ f.state))

pub fitting_after_prepare :
    (t : Tables) (h : ℕ)
    → Fine
    (open_checks
    h
    (bad_handle h)
    (not (is_running (seen_of t (places_of t (looks_home MailAt.Nowhere h))).passage.status))
    (seen_of t (places_of t (looks_home MailAt.Nowhere h))))
    → Fitting
    t
    (places_of t (looks_home MailAt.Nowhere h))
    (open_done
    h
    Kind.Prepare
    (bad_handle h)
    (not (is_running (seen_of t (places_of t (looks_home MailAt.Nowhere h))).passage.status))
    (seen_of t (places_of t (looks_home MailAt.Nowhere h)))
    ).left
unfolding places_of
fitting_after_prepare t h f =
    fitting_after_open t h Kind.Prepare _ _ f (prepare_opens (passage_at t (h % 16)).status (not_false _ f.state))
