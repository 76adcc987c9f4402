-- Steps of a passage's life: 2 begin, 10 abort, 16 retire. Assumes nothing.
-- x_checks: the refusals in their order. x_done: the answer and the records. x_of: the same, where a refusal keeps what was seen.
use Rattle.std.specs.Prelude.{ℕ, ◌+◌, ◌%◌, Bool, false, not, ◌||◌, List, [], ◌∷◌, leb, ltb}
use Rattle.rules.specs.Types.{Status, Passage, Refusal, Check, Seen, Decision}
use Rattle.rules.specs.Limits.{slot_most}
use Rattle.rules.specs.Tables.{handle_of, free_slot}
use Rattle.rules.specs.Answers.{refuse, first_refusal, settle_of}
use Rattle.rules.specs.Parts.{next_clock, is_free, is_running, is_over, aborted_passage, where_there, quieted, new_visit, with_home, with_status}
use Rattle.rules.specs.Seen.{left_passage, left_visit, at_clock}
use Rattle.rules.specs.Checks.{bad_site, bad_handle, bad_times, no_passage, site_down, clock_full}

-- ---- 2. begin a=home, b=slot, u=Q, v=R, Q ≤ R. "Makes an active passage and its home visit, round 0, no calls. Value: handle."

abbrev pub begin_checks : ℕ → ℕ → ℕ → ℕ → Seen → List Check
begin_checks home slot q r seen =
    refuse Refusal.BadField (bad_site home || ltb slot_most slot || bad_times q r) ∷ site_down seen
    ∷ refuse Refusal.WrongState (not (is_free seen.passage.status))
    ∷ clock_full (next_clock seen.site)
    ∷ refuse Refusal.Quiesced (leb q (next_clock seen.site))
    ∷ []

abbrev pub begun_passage : ℕ → Passage → Passage
begun_passage home p = with_home (with_status (free_slot p.generation) Status.Active) home

-- what a begin leaves at this clock
abbrev pub begun : ℕ → ℕ → ℕ → ℕ → Seen → Seen
begun home q r clock seen =
    left_visit (left_passage (at_clock seen clock) (begun_passage home seen.passage)) (new_visit q r 0)

abbrev pub begin_done : ℕ → ℕ → ℕ → ℕ → Seen → Decision
begin_done home slot q r seen =
    record {
      answer =
          first_refusal (begin_checks home slot q r seen) (handle_of slot seen.passage.generation);
      left = begun home q r (next_clock seen.site) seen;
    }

unfoldable pub begin_of : ℕ → ℕ → ℕ → ℕ → Seen → Decision
begin_of home slot q r seen = settle_of (begin_done home slot q r seen) seen

-- ---- 10. abort h: "status aborted, round phase none; the home visit gets Q := min(Q, clock) and loses prepared."

abbrev pub abort_checks : ℕ → Seen → List Check
abort_checks h seen =
    refuse Refusal.BadField (bad_handle h) ∷ no_passage h seen ∷ site_down seen
    ∷ refuse Refusal.WrongState (not (is_running seen.passage.status))
    ∷ clock_full (next_clock seen.site)
    ∷ []

-- what an abort leaves at this clock
abbrev pub aborted : ℕ → Seen → Seen
aborted clock seen =
    left_visit
    (left_passage (at_clock seen clock) (aborted_passage seen.passage))
    (where_there seen.visit (quieted seen.visit clock false seen.visit.dead))

abbrev pub abort_done : ℕ → Seen → Decision
abort_done h seen =
    record {
      answer = first_refusal (abort_checks h seen) 0;
      left = aborted (next_clock seen.site) seen;
    }

unfoldable pub abort_of : ℕ → Seen → Decision
abort_of h seen = settle_of (abort_done h seen) seen

-- ---- 16. retire h: "slot free, generation moves on"; it acts at no site

-- 5: "retire: not aborted or committed, or a visit or message of it remains"
abbrev pub retire_checks : ℕ → Bool → Seen → List Check
retire_checks h remains seen =
    refuse Refusal.BadField (bad_handle h) ∷ no_passage h seen
    ∷ refuse Refusal.WrongState (not (is_over seen.passage.status) || remains)
    ∷ []

-- "a one-byte generation; 255 is followed by 0"
abbrev pub next_generation : ℕ → ℕ
next_generation g = (g + 1) % 256

abbrev pub retired : Seen → Seen
retired seen = left_passage seen (free_slot (next_generation seen.passage.generation))

abbrev pub retire_done : ℕ → Bool → Seen → Decision
retire_done h remains seen =
    record { answer = first_refusal (retire_checks h remains seen) 0; left = retired seen }

unfoldable pub retire_of : ℕ → Bool → Seen → Decision
retire_of h remains seen = settle_of (retire_done h remains seen) seen
