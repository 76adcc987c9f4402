-- What the writer says of a step, the reader reads as that step's record. Assumes nothing.
use Rattle.std.specs.Prelude.{Ok, ℕ, ◌≡◌, false, List, ◌∷◌, ◌++◌, eqb, Some}
use Rattle.std.proofs.Common.{arith, sym, subst, ⊎_elim, eqb-true}
use Rattle.std.proofs.Math.Path.{refl}
use Rattle.rules.specs.Loops.{first_up_to}
use Rattle.rules.specs.LoopsLaws.{either}
use Rattle.rules.specs.Record.{step_of_record, record_of_step}
use Rattle.rules.proofs.RecordLaws.{StepFits, written_reads}
use Rattle.rules.specs.Listing.{spelt}
use Rattle.words.specs.Types.{Mode, Step}
use Rattle.words.specs.declared.scan.Line.{Line}
use Rattle.words.specs.Grammar.{edge_at, invoke_word, at_word}
use Rattle.words.specs.Scan.{at, blank, zeros, end_of, scan_next, scan_all, verdict_of}
use Rattle.words.specs.Say.{Token, token_text, rest_text, read_value_tokens, other_tokens, first_word, more_tokens, step_text}
use Rattle.words.proofs.ScanLaws.{Path, path_place, path_bytes, path_read}

-- a line that says a record
pub record Says (text bytes : List ℕ) : Type 0 where
  pub ends : verdict_of (end_of (scan_all blank text)) ≡ Ok Line.Record
  pub gives : (end_of (scan_all blank text)).bytes ≡ bytes

-- a path of the grammar that ends where a line may end says the record that it has put together
path_says :
    (t : Token) (ts : List Token) (bytes : List ℕ) → Path 0 (t ∷ ts)
    → verdict_of (at Mode.Gap 0 (path_place 0 (t ∷ ts)) 0 (path_bytes 0 (t ∷ ts) zeros)) ≡ Ok Line.Record
    → path_bytes 0 (t ∷ ts) zeros ≡ bytes
    → Says (token_text t ++ rest_text ts) bytes
path_says t ts bytes p e b = record { ends = rw (path_read ts t 0 zeros p) e; gives = rw (path_read ts t 0 zeros p) b }

-- ---- invoke, by its operation

module _ (h site object value : ℕ) where
  write_says : StepFits (Step.Invoke h site 1 object value) → Says (step_text (Step.Invoke h site 1 object value)) (record_of_step (Step.Invoke h site 1 object value))
  unfolding scan_next scan_all spelt edge_at first_up_to step_text record_of_step
  write_says w =
      path_says (Token.Word (first_word (Step.Invoke h site 1 object value))) (more_tokens (Step.Invoke h site 1 object value)) (record_of_step (Step.Invoke h site 1 object value))
      (record { text = λ _ _. refl; known = refl }, (record { plain = refl; taken = refl; fits = omega (arith, w.h) }, (record { text = λ _ _. refl; known = refl }, (record { plain = refl; taken = refl; fits = omega (arith, w.a) }, (record { text = λ _ _. refl; known = refl }, (record { text = λ _ _. refl; known = refl }, (record { plain = refl; taken = refl; fits = omega (arith, w.c) }, (record { text = λ _ _. refl; known = refl }, (record { plain = refl; taken = refl; fits = omega (arith, w.u) }, tt))))))))) refl refl

  bare_read_says : StepFits (Step.Invoke h site 0 object 0) → Says (step_text (Step.Invoke h site 0 object 0)) (record_of_step (Step.Invoke h site 0 object 0))
  unfolding scan_next scan_all spelt edge_at first_up_to step_text record_of_step
  bare_read_says w =
      path_says (Token.Word (first_word (Step.Invoke h site 0 object 0))) (more_tokens (Step.Invoke h site 0 object 0)) (record_of_step (Step.Invoke h site 0 object 0))
      (record { text = λ _ _. refl; known = refl }, (record { plain = refl; taken = refl; fits = omega (arith, w.h) }, (record { text = λ _ _. refl; known = refl }, (record { plain = refl; taken = refl; fits = omega (arith, w.a) }, (record { text = λ _ _. refl; known = refl }, (record { text = λ _ _. refl; known = refl }, (record { plain = refl; taken = refl; fits = omega (arith, w.c) }, tt))))))) refl refl

  value_read_says :
      eqb value 0 ≡ false
      → StepFits (Step.Invoke h site 0 object value)
      → Says (step_text (Step.Invoke h site 0 object value)) (record_of_step (Step.Invoke h site 0 object value))
  unfolding scan_next scan_all spelt edge_at first_up_to step_text record_of_step
  value_read_says e w =
      rw e
      (path_says (Token.Word invoke_word)
      (Token.Number h ∷ Token.Word at_word ∷ Token.Number site ∷ read_value_tokens object value)
      (record_of_step (Step.Invoke h site 0 object value))
      (record { text = λ _ _. refl; known = refl }, (record { plain = refl; taken = refl; fits = omega (arith, w.h) }, (record { text = λ _ _. refl; known = refl }, (record { plain = refl; taken = refl; fits = omega (arith, w.a) }, (record { text = λ _ _. refl; known = refl }, (record { text = λ _ _. refl; known = refl }, (record { plain = refl; taken = refl; fits = omega (arith, w.c) }, (record { text = λ _ _. refl; known = refl }, (record { plain = refl; taken = refl; fits = omega (arith, w.u) }, tt))))))))) refl refl)

  other_says :
      (write : ℕ)
      → eqb write 1 ≡ false
      → eqb write 0 ≡ false
      → StepFits (Step.Invoke h site write object value)
      → Says (step_text (Step.Invoke h site write object value)) (record_of_step (Step.Invoke h site write object value))
  unfolding scan_next scan_all spelt edge_at first_up_to step_text record_of_step
  other_says write one nought w =
      rw (one, nought)
      (path_says (Token.Word invoke_word)
      (Token.Number h ∷ Token.Word at_word ∷ Token.Number site ∷ other_tokens write object value)
      (record_of_step (Step.Invoke h site write object value))
      (record { text = λ _ _. refl; known = refl }, (record { plain = refl; taken = refl; fits = omega (arith, w.h) }, (record { text = λ _ _. refl; known = refl }, (record { plain = refl; taken = refl; fits = omega (arith, w.a) }, (record { text = λ _ _. refl; known = refl }, (record { plain = refl; taken = refl; fits = omega (arith, w.b) }, (record { text = λ _ _. refl; known = refl }, (record { plain = refl; taken = refl; fits = omega (arith, w.c) }, (record { text = λ _ _. refl; known = refl }, (record { plain = refl; taken = refl; fits = omega (arith, w.u) }, tt)))))))))) refl refl)

-- a read says its value where it is not 0
read_says :
    (h site object value : ℕ)
    → StepFits (Step.Invoke h site 0 object value)
    → Says (step_text (Step.Invoke h site 0 object value)) (record_of_step (Step.Invoke h site 0 object value))
read_says h site object value =
    ⊎_elim
    (λ e.
    subst
    (λ (v : ℕ).
    StepFits (Step.Invoke h site 0 object v)
    → Says (step_text (Step.Invoke h site 0 object v)) (record_of_step (Step.Invoke h site 0 object v)))
    (sym (eqb-true value 0 e))
    (bare_read_says h site object value))
    (λ e. value_read_says h site object value e)
    (either (eqb value 0))

invoke_says :
    (h site write object value : ℕ)
    → StepFits (Step.Invoke h site write object value)
    → Says (step_text (Step.Invoke h site write object value)) (record_of_step (Step.Invoke h site write object value))
invoke_says h site write object value =
    ⊎_elim
    (λ one.
    subst
    (λ (b : ℕ).
    StepFits (Step.Invoke h site b object value)
    → Says (step_text (Step.Invoke h site b object value)) (record_of_step (Step.Invoke h site b object value)))
    (sym (eqb-true write 1 one))
    (write_says h site object value))
    (λ one.
    ⊎_elim
    (λ nought.
    subst
    (λ (b : ℕ).
    StepFits (Step.Invoke h site b object value)
    → Says (step_text (Step.Invoke h site b object value)) (record_of_step (Step.Invoke h site b object value)))
    (sym (eqb-true write 0 nought))
    (read_says h site object value))
    (λ nought. other_says h site object value write one nought)
    (either (eqb write 0)))
    (either (eqb write 1))

-- ---- any step

pub step_says : (s : Step) → StepFits s → Says (step_text s) (record_of_step s)
unfolding scan_next scan_all spelt edge_at first_up_to step_text record_of_step
step_says (Step.Tick site n) w =
    path_says (Token.Word (first_word (Step.Tick site n))) (more_tokens (Step.Tick site n)) (record_of_step (Step.Tick site n))
    (record { text = λ _ _. refl; known = refl }, (record { plain = refl; taken = refl; fits = omega (arith, w.a) }, (record { text = λ _ _. refl; known = refl }, (record { plain = refl; taken = refl; fits = omega (arith, w.u) }, tt)))) refl refl
step_says (Step.Begin home slot q r) w =
    path_says (Token.Word (first_word (Step.Begin home slot q r))) (more_tokens (Step.Begin home slot q r)) (record_of_step (Step.Begin home slot q r))
    (record { text = λ _ _. refl; known = refl }, (record { text = λ _ _. refl; known = refl }, (record { plain = refl; taken = refl; fits = omega (arith, w.a) }, (record { text = λ _ _. refl; known = refl }, (record { plain = refl; taken = refl; fits = omega (arith, w.b) }, (record { text = λ _ _. refl; known = refl }, (record { plain = refl; taken = refl; fits = omega (arith, w.u) }, (record { text = λ _ _. refl; known = refl }, (record { plain = refl; taken = refl; fits = omega (arith, w.v) }, tt))))))))) refl refl
step_says (Step.Invoke h site write object value) w = invoke_says h site write object value w
step_says (Step.Refresh h q r) w =
    path_says (Token.Word (first_word (Step.Refresh h q r))) (more_tokens (Step.Refresh h q r)) (record_of_step (Step.Refresh h q r))
    (record { text = λ _ _. refl; known = refl }, (record { plain = refl; taken = refl; fits = omega (arith, w.h) }, (record { text = λ _ _. refl; known = refl }, (record { plain = refl; taken = refl; fits = omega (arith, w.u) }, (record { text = λ _ _. refl; known = refl }, (record { plain = refl; taken = refl; fits = omega (arith, w.v) }, tt)))))) refl refl
step_says (Step.Terminate h) w =
    path_says (Token.Word (first_word (Step.Terminate h))) (more_tokens (Step.Terminate h)) (record_of_step (Step.Terminate h))
    (record { text = λ _ _. refl; known = refl }, (record { plain = refl; taken = refl; fits = omega (arith, w.h) }, tt)) refl refl
step_says (Step.Prepare h) w =
    path_says (Token.Word (first_word (Step.Prepare h))) (more_tokens (Step.Prepare h)) (record_of_step (Step.Prepare h))
    (record { text = λ _ _. refl; known = refl }, (record { plain = refl; taken = refl; fits = omega (arith, w.h) }, tt)) refl refl
step_says (Step.Ask h site) w =
    path_says (Token.Word (first_word (Step.Ask h site))) (more_tokens (Step.Ask h site)) (record_of_step (Step.Ask h site))
    (record { text = λ _ _. refl; known = refl }, (record { plain = refl; taken = refl; fits = omega (arith, w.h) }, (record { text = λ _ _. refl; known = refl }, (record { plain = refl; taken = refl; fits = omega (arith, w.a) }, tt)))) refl refl
step_says (Step.Close h) w =
    path_says (Token.Word (first_word (Step.Close h))) (more_tokens (Step.Close h)) (record_of_step (Step.Close h))
    (record { text = λ _ _. refl; known = refl }, (record { plain = refl; taken = refl; fits = omega (arith, w.h) }, tt)) refl refl
step_says (Step.Tell h site) w =
    path_says (Token.Word (first_word (Step.Tell h site))) (more_tokens (Step.Tell h site)) (record_of_step (Step.Tell h site))
    (record { text = λ _ _. refl; known = refl }, (record { plain = refl; taken = refl; fits = omega (arith, w.h) }, (record { text = λ _ _. refl; known = refl }, (record { plain = refl; taken = refl; fits = omega (arith, w.a) }, tt)))) refl refl
step_says (Step.Abort h) w =
    path_says (Token.Word (first_word (Step.Abort h))) (more_tokens (Step.Abort h)) (record_of_step (Step.Abort h))
    (record { text = λ _ _. refl; known = refl }, (record { plain = refl; taken = refl; fits = omega (arith, w.h) }, tt)) refl refl
step_says (Step.Deliver m) w =
    path_says (Token.Word (first_word (Step.Deliver m))) (more_tokens (Step.Deliver m)) (record_of_step (Step.Deliver m))
    (record { text = λ _ _. refl; known = refl }, (record { plain = refl; taken = refl; fits = omega (arith, w.c) }, tt)) refl refl
step_says (Step.Drop m) w =
    path_says (Token.Word (first_word (Step.Drop m))) (more_tokens (Step.Drop m)) (record_of_step (Step.Drop m))
    (record { text = λ _ _. refl; known = refl }, (record { plain = refl; taken = refl; fits = omega (arith, w.c) }, tt)) refl refl
step_says (Step.Sweep site) w =
    path_says (Token.Word (first_word (Step.Sweep site))) (more_tokens (Step.Sweep site)) (record_of_step (Step.Sweep site))
    (record { text = λ _ _. refl; known = refl }, (record { plain = refl; taken = refl; fits = omega (arith, w.a) }, tt)) refl refl
step_says (Step.Crash site) w =
    path_says (Token.Word (first_word (Step.Crash site))) (more_tokens (Step.Crash site)) (record_of_step (Step.Crash site))
    (record { text = λ _ _. refl; known = refl }, (record { plain = refl; taken = refl; fits = omega (arith, w.a) }, tt)) refl refl
step_says (Step.Recover site) w =
    path_says (Token.Word (first_word (Step.Recover site))) (more_tokens (Step.Recover site)) (record_of_step (Step.Recover site))
    (record { text = λ _ _. refl; known = refl }, (record { plain = refl; taken = refl; fits = omega (arith, w.a) }, tt)) refl refl
step_says (Step.Retire h) w =
    path_says (Token.Word (first_word (Step.Retire h))) (more_tokens (Step.Retire h)) (record_of_step (Step.Retire h))
    (record { text = λ _ _. refl; known = refl }, (record { plain = refl; taken = refl; fits = omega (arith, w.h) }, tt)) refl refl

-- "for every step, reading its words gives the step"
pub step_reads : (s : Step) → StepFits s → step_of_record (end_of (scan_all blank (step_text s))).bytes ≡ Some s
step_reads s w = rw (step_says s w).gives (written_reads s w)
