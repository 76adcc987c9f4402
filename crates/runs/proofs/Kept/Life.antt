-- A passage begins; a slot is free. Assumes nothing.
use Rattle.std.specs.Prelude.{ℕ, zero, suc, ◌<◌, ◌≤◌, ◌≡◌, refl, true, false}
use Rattle.std.proofs.Common.{arith, sym, ap, ◌∙◌, ⊎_elim, true≢false}
use Rattle.std.proofs.lemmas.Bool.{false≢true}
use Rattle.rules.specs.Loops.{sum_up_to}
use Rattle.rules.specs.Tables.{no_round}
use Rattle.rules.specs.Parts.{is_free, is_empty, is_phase_two, new_visit}
use Rattle.rules.specs.Passages.{begun_passage}
use Rattle.runs.specs.Types.{Round, Status, Visit, Body}
use Rattle.runs.specs.Walk.Says.{is_refresh}
use Rattle.runs.specs.Walk.Put.{put, put_same, put_other, put_all, same_or_other}
use Rattle.runs.specs.Times.View.{View, Ledger, no_ledger, first_seen}
use Rattle.runs.specs.Times.Clauses.{Below, SiteFine, PassageFine, calls_to, received_by, Holds}
use Rattle.runs.proofs.Times.ClausesLaws.{empty_clause}
use Rattle.runs.proofs.Kept.Masks.{nobody_answers}

-- a sum of nothing
sum_nothing : (f : ℕ → ℕ) (n : ℕ) → ((i : ℕ) → f i ≡ 0) → sum_up_to f n ≡ 0
unfolding sum_up_to
sum_nothing f zero h = refl
sum_nothing f (suc n) h =
    let a : sum_up_to f n ≡ 0 = sum_nothing f n h in let b : f n ≡ 0 = h n in omega arith

-- no messages, no calls
no_calls : (w : View) → ((k : ℕ) → (w.mail k).body ≡ Body.Empty) → (d : ℕ) → calls_to w d ≡ 0
no_calls w mail d = sum_nothing _ 32 (λ k. rw (mail k))

-- a round that was never opened
fresh_passage :
    (w : View) (l : Ledger) → w.passage.home < 8 → w.passage.round ≡ no_round → PassageFine w l
fresh_passage w l i e =
    record {
      home = i;
      mask = rw e (omega arith);
      figures = rw e refl;
      kept =
          λ v j y. absurd (true≢false (sym y ∙ nobody_answers w.passage.round v (ap (λ (r : Round). r.answered) e) j));
      home_answers = λ y. absurd (y (ap (λ (r : Round). r.phase) e));
      refresh_one = λ q r y. absurd (false≢true (ap is_refresh (sym (ap (λ (r : Round). r.kind) e) ∙ y)));
      refresh_two = λ q r y k. absurd (false≢true (ap is_phase_two (sym (ap (λ (r : Round). r.phase) e) ∙ y)));
      closed_quiet = λ y b. absurd (false≢true (ap is_phase_two (sym (ap (λ (r : Round). r.phase) e) ∙ y)));
      terminate_aborted = λ y n. absurd (n (ap (λ (r : Round). r.phase) e));
    }

-- ---- a free slot: nothing of it anywhere, and an empty ledger

pub holds_of_free :
    (w : View) → w.passage.home < 8 → w.passage.round ≡ no_round
    → ((s : ℕ) → (w.visit s).there ≡ false) → ((k : ℕ) → (w.mail k).body ≡ Body.Empty)
    → Holds w no_ledger
holds_of_free w home e visits mail =
    record {
      free = λ y. record { round = e; visits = visits; mail = mail; ledger = λ s. refl };
      mirror = λ s y. absurd (true≢false (sym y ∙ visits s));
      sites = λ s y. absurd (false≢true y);
      posted = λ k y. absurd (true≢false (sym (ap is_empty (mail k)) ∙ y));
      mail = λ k. rw (mail k) empty_clause;
      passage = fresh_passage w no_ledger home e;
      balance = λ d. let a : calls_to w d ≡ 0 = no_calls w mail d in omega arith;
    }

-- a slot that is free needs no ledger
pub free_again : (w : View) (l : Ledger) → Holds w l → w.passage.status ≡ Status.Free → Holds w no_ledger
free_again w l h e =
    holds_of_free w h.passage.home (h.free e).round (h.free e).visits (h.free e).mail

-- ---- begin: the slot was free, so home alone has seen the passage

module _ (w : View) (l : Ledger) (home q r source : ℕ) (h : Holds w l)
    (free : w.passage.status ≡ Status.Free) (place : home < 8) (times : q ≤ r) where
  -- the view and the ledger that a begin leaves
  abbrev pub begun_view : View
  begun_view =
      record {
        passage = begun_passage home w.passage;
        visit = put w.visit home (new_visit q r 0);
        clock = w.clock;
        mail = w.mail;
      }

  abbrev pub begun_ledger : Ledger
  begun_ledger = put l home (first_seen l source (new_visit q r 0))

  only_home : (s : ℕ) → (begun_ledger s).seen ≡ true → s ≡ home
  only_home s e =
      ⊎_elim
      (λ y. y)
      (λ n.
      absurd
      (true≢false
      (sym (rw (put_other l home (first_seen l source (new_visit q r 0)) s n) at e) ∙ (h.free free).ledger s)))
      (same_or_other s home)

  begun_past : begun_ledger home ≡ first_seen l source (new_visit q r 0)
  begun_past = put_same l home (first_seen l source (new_visit q r 0))

  begun_below : Below begun_view begun_ledger q
  begun_below =
      record {
        visits = λ t e. rw (only_home t e, begun_past) times;
        calls = λ k c e n. absurd (true≢false (ap is_empty (sym ((h.free free).mail k) ∙ e)));
      }

  begun_site : SiteFine begun_view begun_ledger home
  begun_site =
      record {
        place = place;
        counts = rw begun_past refl;
        number = rw begun_past (omega arith);
        born = rw begun_past (omega arith);
        tree = λ n. absurd (n refl);
        edge = λ n. absurd (n refl);
        times = rw (ap (λ x. x.last.quiesce) begun_past) begun_below;
        refresh_one = λ a b e. absurd (false≢true (ap is_refresh e));
        bound = λ e. absurd (false≢true e);
        gone = λ e. absurd (true≢false (ap (λ (v : Visit). v.there) (sym (put_same w.visit home (new_visit q r 0))) ∙ e));
        largest = λ e. absurd (false≢true (ap is_phase_two e));
      }

  pub holds_after_begun : Holds begun_view begun_ledger
  holds_after_begun =
      record {
        free = λ e. absurd (false≢true (ap is_free e));
        mirror =
            λ s.
            ⊎_elim
            (λ (y : s ≡ home) e. rw (y, begun_past, put_same w.visit home (new_visit q r 0)) (refl, refl))
            (λ n e.
            absurd
            (true≢false
            (sym (rw (put_other w.visit home (new_visit q r 0) s n) at e) ∙ (h.free free).visits s)))
            (same_or_other s home);
        sites = λ s e. rw (only_home s e) begun_site;
        posted = h.posted;
        mail = λ k. rw ((h.free free).mail k) empty_clause;
        passage = fresh_passage begun_view begun_ledger place refl;
        balance =
            λ d.
            let a : calls_to w d ≡ 0 = no_calls w (h.free free).mail d in
            let b : received_by (begun_ledger d) ≡ 0 =
            put_all
            l
            home
            (first_seen l source (new_visit q r 0))
            (λ s x. received_by x ≡ 0)
            refl
            (λ s n. rw ((h.free free).ledger s))
            d in
            rw b (omega arith);
      }
