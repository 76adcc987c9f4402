-- What the moves have in common: what a slot's ledger says after a store, that no visit is made twice,
-- and that a quiesce time never comes down below the clock. Assumes nothing.
use Rattle.std.specs.Prelude.{ℕ, ◌<◌, ◌≤◌, ◌≡◌, refl, ◌≢◌, Bool, true, false, cond}
use Rattle.std.proofs.Common.{arith, sym, ap, ◌∙◌, subst}
use Rattle.std.proofs.Math.Logic.{⊎_elim}
use Rattle.std.proofs.lemmas.Bool.{false≢true}
use Rattle.rules.specs.declared.looking.Trip.{Trip}
use Rattle.rules.specs.LoopsLaws.{either, cond_keeps}
use Rattle.rules.specs.Parts.{where_there, quieted, asked_visit, told_visit, asked_of}
use Rattle.rules.specs.Rounds.{round_told}
use Rattle.runs.specs.Types.{Passage, Visit, Asked, Told, Message, Step}
use Rattle.runs.proofs.Walk.Plain.{when_true, when_false}
use Rattle.runs.specs.Walk.Put.{put, put_same, put_other, same_or_other}
use Rattle.runs.specs.Times.View.{View, Past, Ledger, ledger_noted, noted_past, relast, first_seen}
use Rattle.runs.specs.Times.Clauses.{Holds}
use Rattle.runs.proofs.Kept.Calls.{never_twice}
use Rattle.runs.specs.Moves.Definitions.{Move, Turn}

-- ---- the ledger after a store

-- what holds of every site once the store is made: at its own site by the visit left there, elsewhere by what stood
module _ (w : View) (l : Ledger) (a source : ℕ) (v : Visit) where
  -- a visit that is there is seen, and is the last
  abbrev Noted : Past → Type 0
  Noted x = (x.seen ≡ true) × (x.last ≡ v)

  pub past_there : v.there ≡ true → Noted (noted_past l (l a) source v)
  past_there e = when_true Noted v.there _ (l a) e (cond_keeps Noted (l a).seen (relast (l a) v) (first_seen l source v) (refl, refl) (refl, refl))

  pub sites_after :
      (P : ℕ → Visit → Past → Type 0)
      → (v.there ≡ true → (x : Past) → x.seen ≡ true → x.last ≡ v → P a v x)
      → (v.there ≡ false → P a v (l a))
      → ((s : ℕ) → s ≢ a → P s (w.visit s) (l s))
      → (s : ℕ) → P s (put w.visit a v s) (ledger_noted l a source v s)
  unfolding put
  sites_after P there gone other s =
      ⊎_elim
      (λ (e : s ≡ a).
      rw
      (e, put_same w.visit a v, put_same l a (noted_past l (l a) source v))
      (⊎_elim
      (λ y. there y _ (past_there y).0 (past_there y).1)
      (λ y. when_false (P a v) v.there _ (l a) y (gone y))
      (either v.there)))
      (λ n. rw (put_other w.visit a v s n, put_other l a (noted_past l (l a) source v) s n) (other s n))
      (same_or_other s a)

  -- what is true of the visit at a site that has been seen, while it is there: P before the store and Q after it.
  -- The store makes no visit where one has been seen, and leads from P to Q at its own site and at every other
  pub seen_visit_after :
      (P Q : Visit → Type 0) (s : ℕ) → (l s).seen ≡ true → ((w.visit s).there ≡ true → P (w.visit s))
      → ((w.visit a).there ≡ false → v.there ≡ true → (l a).seen ≡ true → ⊥)
      → ((w.visit a).there ≡ true → v.there ≡ true → P (w.visit a) → Q v)
      → ((u : Visit) → P u → Q u)
      → ((ledger_noted l a source v s).seen ≡ true) × ((put w.visit a v s).there ≡ true → Q (put w.visit a v s))
  seen_visit_after P Q s seen has unmade here leads =
      sites_after
      (λ x u y. x ≡ s → (y.seen ≡ true) × (u.there ≡ true → Q u))
      (λ there y noted last e. (
        noted,
        λ now.
            ⊎_elim
            (λ was. here was there (subst (λ (x : ℕ). (w.visit x).there ≡ true → P (w.visit x)) (sym e) has was))
            (λ missing. absurd (unmade missing there (subst (λ (x : ℕ). (l x).seen ≡ true) (sym e) seen)))
            (either (w.visit a).there),
      ))
      (λ gone e. (subst (λ (x : ℕ). (l x).seen ≡ true) (sym e) seen, λ there. absurd (false≢true (sym gone ∙ there))))
      (λ x n e. subst (λ (y : ℕ). ((l y).seen ≡ true) × ((w.visit y).there ≡ true → Q (w.visit y))) (sym e) (seen, λ there. leads _ (has there)))
      s
      refl

-- ---- no visit is made twice

-- "Where a rule changes a visit that isn't there .., that part does nothing"; else it is changed
pub where_is : (v x : Visit) → v.there ≡ true → where_there v x ≡ x
where_is v x e = when_true (λ z. z ≡ x) v.there x v e refl

pub where_not : (v x : Visit) → v.there ≡ false → where_there v x ≡ v
where_not v x e = when_false (λ z. z ≡ v) v.there x v e refl

where_gone : (v x : Visit) → v.there ≡ false → (where_there v x).there ≡ true → ⊥
where_gone v x e y = false≢true (sym e ∙ ap (λ (z : Visit). z.there) (sym (where_not v x e)) ∙ y)

-- a store that makes a visit makes it at a site that has seen none
pub made_at_unseen :
    {step : Step} {w : View} {a k c : ℕ} {p : Passage} {v : Visit} {m : Message} (l : Ledger) → Holds w l → Move step w a k p v c m
    → (w.visit a).there ≡ false → v.there ≡ true → (l a).seen ≡ false
made_at_unseen l h (Move.Rests p v i m) e y = absurd (false≢true (sym e ∙ ap (λ (x : Visit). x.there) (sym v) ∙ y))
made_at_unseen l h (Move.Sends d j p there v i m f) e y = absurd (false≢true (sym e ∙ there))
made_at_unseen l h (Move.Tells p v i q two n f uncalled) e y = absurd (false≢true (sym e ∙ ap (λ (x : Visit). x.there) (sym v) ∙ y))
made_at_unseen {a = a} l h (Move.Begins free s r unmarked i m) e y = (h.free free).ledger a
made_at_unseen l h (Move.Retires g s r v i) e y = absurd (false≢true (sym e ∙ ap (λ (x : Visit). x.there) (sym v) ∙ y))
made_at_unseen l h (Move.Opens kind from q there p v i m) e y = absurd (false≢true (sym e ∙ there))
made_at_unseen {w = w} {a = a} l h (Move.Closes q one closed p v i m fits) e y = absurd (where_gone (w.visit a) _ e (ap (λ (x : Visit). x.there) (sym v) ∙ y))
made_at_unseen {w = w} {a = a} l h (Move.Aborts runs p v i m) e y = absurd (where_gone (w.visit a) _ e (ap (λ (x : Visit). x.there) (sym v) ∙ y))
made_at_unseen {w = w} {a = a} {k = k} {c = c} l h (Move.Receives call body at p v early i m) e y =
    let q : c < call.quiesce = rw e at early in never_twice w l h k a call body at e (omega arith)
made_at_unseen l h (Move.Answers n asked body p there live round v i q f uncalled) e y = absurd (false≢true (sym e ∙ there))
made_at_unseen l h (Move.Hears n told body p there v i m) e y = absurd (false≢true (sym e ∙ there))
made_at_unseen l h (Move.Keeps n r q body number at p v i stamp m) e y = absurd (false≢true (sym e ∙ ap (λ (x : Visit). x.there) (sym v) ∙ y))

-- a turn makes none
pub turned_unmade : {w : View} {a : ℕ} {p : Passage} {v : Visit} {trip : Trip} → Turn w a p v trip → (w.visit a).there ≡ false → v.there ≡ true → ⊥
turned_unmade (Turn.Stays trip p v) e y = false≢true (sym e ∙ ap (λ (x : Visit). x.there) (sym v) ∙ y)
turned_unmade (Turn.Sweeps site aborts b p there prepared v) e y = false≢true (sym e ∙ there)
turned_unmade {w = w} {a = a} (Turn.Crashes site aborts hits b p f v) e y = where_gone (w.visit a) _ e (ap (λ (x : Visit). x.there) (sym v) ∙ y)

-- ---- a quiesce time comes down to the moved clock at most

later_asked : (asked : Asked) (n c x : ℕ) (v : Visit) → x < v.quiesce → x < c → x < (asked_visit asked n c v).quiesce
later_asked (Asked.Refresh r) n c x v i j = i
later_asked Asked.Terminate n c x v i j = omega arith
later_asked Asked.Prepare n c x v i j = omega arith

later_told : (told : Told) (x : ℕ) (v : Visit) → x < v.quiesce → (told_visit told v).there ≡ true → x < (told_visit told v).quiesce
later_told (Told.Refresh q) x v i e = omega arith
later_told (Told.Terminate m) x v i e = i
later_told Told.Prepare x v i e = absurd (false≢true e)

-- what is before the quiesce time of a visit that was there, and before the clock that the step moved, is before its quiesce time still
pub quiesce_after :
    {step : Step} {w : View} {a k c : ℕ} {p : Passage} {v : Visit} {m : Message} (l : Ledger) → Holds w l → Move step w a k p v c m
    → (x : ℕ) → (w.visit a).there ≡ true → v.there ≡ true → x < (w.visit a).quiesce → x ≤ w.clock a → x < v.quiesce
quiesce_after l h (Move.Rests p v i m) x e y j n = rw v j
quiesce_after l h (Move.Sends d b p there v i m f) x e y j n = rw v j
quiesce_after l h (Move.Tells p v i q two b f uncalled) x e y j n = rw v j
quiesce_after {a = a} l h (Move.Begins free s r unmarked i m) x e y j n = absurd (false≢true (sym ((h.free free).visits a) ∙ e))
quiesce_after l h (Move.Retires g s r v i) x e y j n = rw v j
quiesce_after {w = w} {a = a} {c = c} l h (Move.Opens kind from q there p v i m) x e y j n =
    rw v (later_asked (asked_of kind) _ c x (w.visit a) j (omega arith))
quiesce_after {w = w} {a = a} {v = v} l h (Move.Closes q one closed p u i m fits) x e y j n =
    let t : v ≡ told_visit (round_told w.passage.round) (w.visit a) = u ∙ where_is (w.visit a) _ e in
    rw t (later_told (round_told w.passage.round) x (w.visit a) j (ap (λ (z : Visit). z.there) (sym t) ∙ y))
quiesce_after {w = w} {a = a} l h (Move.Aborts runs p v i m) x e y j n = rw (v, e) (omega arith)
quiesce_after {w = w} {a = a} l h (Move.Receives call body at p v early i m) x e y j n = rw (v, e) j
quiesce_after {w = w} {a = a} {c = c} l h (Move.Answers b asked body p there live round v i q f uncalled) x e y j n =
    rw v (later_asked asked b c x (w.visit a) j (omega arith))
quiesce_after {w = w} {a = a} l h (Move.Hears b told body p there v i m) x e y j n =
    rw v (later_told told x (w.visit a) j (ap (λ (z : Visit). z.there) (sym v) ∙ y))
quiesce_after l h (Move.Keeps b r q body number at p v i stamp m) x e y j n = rw v j

-- a turn of a crash brings it down to the clock as it stands
abbrev pub is_crash : Trip → Bool
is_crash Trip.Nowhere = false
is_crash (Trip.Sweep site) = false
is_crash (Trip.Crash site) = true

pub quiesce_turned :
    {w : View} {a : ℕ} {p : Passage} {v : Visit} {trip : Trip} → Turn w a p v trip
    → (x : ℕ) → (w.visit a).there ≡ true → v.there ≡ true → x < (w.visit a).quiesce → (is_crash trip ≡ true → x < w.clock a) → x < v.quiesce
quiesce_turned (Turn.Stays trip p v) x e y j n = rw v j
quiesce_turned (Turn.Sweeps site aborts b p there prepared v) x e y j n = absurd (false≢true (ap (λ (z : Visit). z.there) (sym v) ∙ y))
quiesce_turned {w = w} {a = a} (Turn.Crashes site aborts hits b p f v) x e y j n =
    let i : x < w.clock a = n refl in
    rw
    (v, where_is (w.visit a) (cond hits (quieted (w.visit a) (w.clock a) false true) (w.visit a)) e)
    (cond_keeps (λ (z : Visit). x < z.quiesce) hits (quieted (w.visit a) (w.clock a) false true) (w.visit a) (omega arith) j)

-- ---- a clock is not put back
pub clock_after_move : {step : Step} {w : View} {a k c : ℕ} {p : Passage} {v : Visit} {m : Message} → Move step w a k p v c m → w.clock a ≤ c
clock_after_move (Move.Rests e y i z) = i
clock_after_move (Move.Sends d b e was y i z f) = i
clock_after_move (Move.Tells e y i home two silent word uncalled) = i
clock_after_move (Move.Begins free status round unmarked i z) = i
clock_after_move (Move.Retires g status round y i) = i
clock_after_move (Move.Opens kind from home was e y i z) = omega arith
clock_after_move (Move.Closes home one closed e y i z fits) = omega arith
clock_after_move (Move.Aborts runs e y i z) = omega arith
clock_after_move (Move.Receives call body at e y early i z) = omega arith
clock_after_move (Move.Answers b asked body e was live below y i silent back uncalled) = omega arith
clock_after_move (Move.Hears b told body e was y i z) = omega arith
clock_after_move (Move.Keeps b r q body number at e y i stamp z) = omega arith
