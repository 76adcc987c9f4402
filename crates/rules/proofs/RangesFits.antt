-- The ranges as bounds, field by field: what a record in range says, and what makes one; and the bounds of each part that the rules are made of.
-- It serves Sane, which code needs, and RangesKept. Assumes nothing.
use Rattle.std.specs.Prelude.{ℕ, ◌≤◌, ◌<◌, ◌≡◌, refl, Bool, true, false, cond, List, leb, ltb, get_or, replicate}
use Rattle.std.proofs.Common.{arith, leb-true, le-leb, ltb-false}
use Rattle.std.proofs.lemmas.Bool.{false≢true}
use Rattle.std.proofs.lemmas.List.{get_or-replicate}
use Rattle.rules.specs.Types.{Object, Figures, Kind, Phase, Round, Passage, Visit, Call, Asked, Told, Message, Seen}
use Rattle.rules.specs.Limits.{clock_most, time_most, width_most, count_most, handle_most}
use Rattle.rules.specs.LoopsLaws.{and_left, and_right, and_both, every_at, every_all, most_below, cond_keeps}
use Rattle.rules.specs.Tables.{past_object, past_figures, no_counts, no_figures, no_round, no_visit, no_message}
use Rattle.rules.specs.Ranges.{holder_in_range, object_in_range, counts_in_range, figures_in_range, kind_in_range, phase_fits, round_in_range, visit_in_range, call_in_range, asked_in_range, told_in_range, body_in_range, message_in_range}
use Rattle.rules.specs.Parts.{is_phase_one, aborted_passage, quieted, new_visit, is_held_by, taken, operated, unheld, freed, each_of, figures_at, has_answered, with_answer, largest_quiesce, asked_of, told_of, asked_visit, told_visit, told_objects, answer_message}
use Rattle.rules.specs.Checks.{bad_times}
use Rattle.rules.specs.Rounds.{round_told}
use Rattle.rules.specs.Sane.{Sane}
use Rattle.rules.proofs.RangesLaws.{set_keeps_at, four_at, both, neither, SeenInRange}

-- ---- the ranges of a record

abbrev pub Counts : List ℕ → Type 0
Counts sent = (d : ℕ) → d < 8 → get_or sent d 0 ≤ count_most

counts_say : (sent : List ℕ) → counts_in_range sent ≡ true → Counts sent
unfolding counts_in_range
counts_say sent e d h = leb-true _ _ (every_at _ 8 e d h)

counts_make : (sent : List ℕ) → Counts sent → counts_in_range sent ≡ true
unfolding counts_in_range
counts_make sent c = every_all _ 8 (λ d h. le-leb _ _ (c d h))

pub record FiguresFit (f : Figures) : Type 0 where
  pub sent : Counts f.sent
  pub received : f.received ≤ count_most
  pub quiesce : f.quiesce ≤ time_most

figures_say : (f : Figures) → figures_in_range f ≡ true → FiguresFit f
figures_say f e =
    both e λ e q.
    both e λ s r.
    record { sent = counts_say f.sent s; received = leb-true _ _ r; quiesce = leb-true _ _ q }

figures_make : (f : Figures) → FiguresFit f → figures_in_range f ≡ true
figures_make f b =
    rw (counts_make f.sent b.sent, le-leb _ _ b.received, le-leb _ _ b.quiesce)

pub record RoundFits (r : Round) : Type 0 where
  pub number : r.number ≤ count_most
  pub kind : kind_in_range r.kind ≡ true
  pub phase : phase_fits r.kind r.phase ≡ true
  pub figures : (s : ℕ) → s < 8 → FiguresFit (figures_at r s)

pub round_says : (r : Round) → round_in_range r ≡ true → RoundFits r
unfolding round_in_range
round_says r e =
    both e λ e f.
    both e λ e p.
    both e λ n k.
    record {
      number = leb-true _ _ n;
      kind = k;
      phase = p;
      figures = λ s h. figures_say (figures_at r s) (every_at (λ s. figures_in_range (figures_at r s)) 8 f s h);
    }

round_makes : (r : Round) → RoundFits r → round_in_range r ≡ true
unfolding round_in_range
round_makes r b =
    rw
    (le-leb _ _ b.number, b.kind, b.phase)
    (every_all _ 8 (λ s h. figures_make (figures_at r s) (b.figures s h)))

pub record PassageFits (p : Passage) : Type 0 where
  pub home : p.home ≤ 7
  pub round : RoundFits p.round

pub record VisitFits (v : Visit) : Type 0 where
  pub quiesce : v.quiesce ≤ time_most
  pub release : v.release ≤ time_most
  pub round : v.round ≤ count_most
  pub sent : Counts v.sent
  pub received : v.received ≤ count_most

visit_says : (v : Visit) → visit_in_range v ≡ true → VisitFits v
visit_says v e =
    both e λ e c.
    both e λ e s.
    both e λ e n.
    both e λ q r.
    record {
      quiesce = leb-true _ _ q;
      release = leb-true _ _ r;
      round = leb-true _ _ n;
      sent = counts_say v.sent s;
      received = leb-true _ _ c;
    }

visit_makes : (v : Visit) → VisitFits v → visit_in_range v ≡ true
visit_makes v b =
    rw (le-leb _ _ b.quiesce, le-leb _ _ b.release, le-leb _ _ b.round, counts_make v.sent b.sent, le-leb _ _ b.received)

pub record CallFits (c : Call) : Type 0 where
  pub quiesce : c.quiesce ≤ time_most
  pub release : c.release ≤ time_most
  pub round : c.round ≤ count_most
  pub object : c.object ≤ 31
  pub value : c.value ≤ width_most

pub call_range_says : (c : Call) → call_in_range c ≡ true → CallFits c
call_range_says c e =
    both e λ e v.
    both e λ e o.
    both e λ e n.
    both e λ q r.
    record {
      quiesce = leb-true _ _ q;
      release = leb-true _ _ r;
      round = leb-true _ _ n;
      object = leb-true _ _ o;
      value = leb-true _ _ v;
    }

pub call_makes : (c : Call) → CallFits c → call_in_range c ≡ true
call_makes c b =
    rw (le-leb _ _ b.quiesce, le-leb _ _ b.release, le-leb _ _ b.round, le-leb _ _ b.object, le-leb _ _ b.value)

pub record MessageFits (m : Message) : Type 0 where
  pub source : m.source ≤ 7
  pub destination : m.destination ≤ 7
  pub handle : m.handle ≤ handle_most
  pub stamp : m.stamp ≤ clock_most
  pub sent : Counts m.sent
  pub body : body_in_range m.body ≡ true

message_says : (m : Message) → message_in_range m ≡ true → MessageFits m
message_says m e =
    both e λ e b.
    both e λ e c.
    both e λ e t.
    both e λ e h.
    both e λ s d.
    record {
      source = leb-true _ _ s;
      destination = leb-true _ _ d;
      handle = leb-true _ _ h;
      stamp = leb-true _ _ t;
      sent = counts_say m.sent c;
      body = b;
    }

message_makes : (m : Message) → MessageFits m → message_in_range m ≡ true
message_makes m b =
    rw (le-leb _ _ b.source, le-leb _ _ b.destination, le-leb _ _ b.handle, le-leb _ _ b.stamp, counts_make m.sent b.sent) b.body

pub record ObjectFits (o : Object) : Type 0 where
  pub value : o.value ≤ width_most
  pub before : o.before ≤ width_most
  pub held : holder_in_range o ≡ true

object_says : (o : Object) → object_in_range o ≡ true → ObjectFits o
object_says o e =
    both e λ e h.
    both e λ v b.
    record { value = leb-true _ _ v; before = leb-true _ _ b; held = h }

object_makes : (o : Object) → ObjectFits o → object_in_range o ≡ true
object_makes o b = rw (le-leb _ _ b.value, le-leb _ _ b.before) b.held

abbrev pub ObjectsFit : List Object → Type 0
ObjectsFit os = (i : ℕ) → ObjectFits (get_or os i past_object)

pub record SeenFits (seen : Seen) : Type 0 where
  pub site : seen.site.clock ≤ clock_most
  pub passage : PassageFits seen.passage
  pub visit : VisitFits seen.visit
  pub message : MessageFits seen.message
  pub objects : ObjectsFit seen.objects

pub seen_says : (seen : Seen) → SeenInRange seen → SeenFits seen
seen_says seen r =
    record {
      site = leb-true _ _ r.site;
      passage = both r.passage λ h n. record { home = leb-true _ _ h; round = round_says seen.passage.round n };
      visit = visit_says seen.visit r.visit;
      message = message_says seen.message r.message;
      objects = λ i. object_says (get_or seen.objects i past_object) (r.objects i);
    }

pub seen_makes : (seen : Seen) → SeenFits seen → SeenInRange seen
seen_makes seen b =
    record {
      site = le-leb _ _ b.site;
      passage = and_both _ _ (le-leb _ _ b.passage.home) (round_makes seen.passage.round b.passage.round);
      visit = visit_makes seen.visit b.visit;
      message = message_makes seen.message b.message;
      objects = λ i. object_makes (get_or seen.objects i past_object) (b.objects i);
    }

pub sane_seen : (seen : Seen) → SeenInRange seen → Sane seen
sane_seen seen r = let b : SeenFits seen = seen_says seen r in search arith

-- ---- times that passed 2

pub times_fit : (q r : ℕ) → bad_times q r ≡ false → (q ≤ time_most) × (r ≤ time_most)
times_fit q r e =
    neither {b = ltb r q} e λ e _.
    neither e λ f g.
    (ltb-false _ _ f, ltb-false _ _ g)

-- ---- emptied places and new records

pub no_counts_fit : Counts no_counts
no_counts_fit d h = rw (get_or-replicate {A = ℕ} 8 d 0 0 h) (omega arith)

pub eight_figures_fit : (s : ℕ) → s < 8 → FiguresFit (get_or (replicate 8 no_figures) s past_figures)
eight_figures_fit s h = rw (get_or-replicate 8 s no_figures past_figures h) (search (arith, no_counts_fit))

pub no_round_fits : RoundFits no_round
no_round_fits = search (arith, refl, eight_figures_fit)

pub new_visit_fits : (q r n : ℕ) → q ≤ time_most → r ≤ time_most → n ≤ count_most → VisitFits (new_visit q r n)
new_visit_fits q r n a b c = search (arith, no_counts_fit)

pub no_visit_fits : VisitFits no_visit
no_visit_fits = search (arith, no_counts_fit)

pub no_message_fits : MessageFits no_message
no_message_fits = search (arith, refl, no_counts_fit)

pub answer_message_fits :
    (v : Visit) (s d h c : ℕ) → VisitFits v → s ≤ 7 → d ≤ 7 → h ≤ handle_most → c ≤ clock_most
    → MessageFits (answer_message v s d h c)
answer_message_fits v s d h c b p q r t =
    let e : body_in_range (answer_message v s d h c).body ≡ true =
    rw (le-leb _ _ b.round, le-leb _ _ b.received, le-leb _ _ b.quiesce) in
    search arith

-- ---- objects

-- an object that is let go with a value in range, or stays
pub let_go_fits :
    (p x : ℕ) (o : Object) → x ≤ width_most → ObjectFits o
    → ObjectFits (cond (is_held_by p o) (unheld x) o)
let_go_fits p x o h b =
    cond_keeps ObjectFits (is_held_by p o) _ o (search (arith, refl)) b

pub taken_fits : (p : ℕ) (o : Object) → p ≤ 15 → ObjectFits o → ObjectFits (taken p o)
taken_fits p o h b = search (arith, le-leb p 15 h, cond_keeps ObjectFits)

pub operated_fits : (c : Call) (o : Object) → c.value ≤ width_most → ObjectFits o → ObjectFits (operated c o)
operated_fits c o h b = search (arith, cond_keeps ObjectFits)

pub each_fits : (f : Object → Object) → ((o : Object) → ObjectFits o → ObjectFits (f o)) → (os : List Object) → ObjectsFit os → ObjectsFit (each_of f os)
each_fits f k os b =
    four_at ObjectFits past_object (k _ (b 0)) (k _ (b 1)) (k _ (b 2)) (k _ (b 3)) (search (arith, refl))

pub told_objects_fit : (d : Told) (p : ℕ) (os : List Object) → ObjectsFit os → ObjectsFit (told_objects d p os)
told_objects_fit (Told.Refresh q) p os b = b
told_objects_fit (Told.Terminate m) p os b = b
told_objects_fit Told.Prepare p os b =
    each_fits (freed p) (λ o f. let_go_fits p o.value o f.value f) os b

-- ---- visits

pub quieted_fits : (v : Visit) (clock : ℕ) (prepared dead : Bool) → VisitFits v → VisitFits (quieted v clock prepared dead)
quieted_fits v clock prepared dead b = search arith

pub asked_visit_fits :
    (a : Asked) (n clock : ℕ) (v : Visit) → asked_in_range a ≡ true → n ≤ count_most → VisitFits v
    → VisitFits (asked_visit a n clock v)
asked_visit_fits (Asked.Refresh r) n clock v e h b = search (arith, leb-true r time_most e)
asked_visit_fits Asked.Terminate n clock v e h b = search arith
asked_visit_fits Asked.Prepare n clock v e h b = search arith

pub told_visit_fits : (d : Told) (v : Visit) → told_in_range d ≡ true → VisitFits v → VisitFits (told_visit d v)
told_visit_fits (Told.Refresh q) v e b = search (arith, leb-true q time_most e)
told_visit_fits (Told.Terminate m) v e b = search arith
told_visit_fits Told.Prepare v e b = no_visit_fits

-- ---- rounds

pub asked_in_range_lem : (k : Kind) → kind_in_range k ≡ true → asked_in_range (asked_of k) ≡ true
asked_in_range_lem Kind.None e = refl
asked_in_range_lem (Kind.Refresh q r) e = and_right (leb q time_most) (leb r time_most) e
asked_in_range_lem Kind.Terminate e = refl
asked_in_range_lem Kind.Prepare e = refl

told_in_range_lem : (k : Kind) (m : ℕ) → kind_in_range k ≡ true → m ≤ time_most → told_in_range (told_of k m) ≡ true
told_in_range_lem Kind.None m e h = le-leb m time_most h
told_in_range_lem (Kind.Refresh q r) m e h = and_left (leb q time_most) (leb r time_most) e
told_in_range_lem Kind.Terminate m e h = le-leb m time_most h
told_in_range_lem Kind.Prepare m e h = refl

-- M is one of the kept figures, or 0
pub round_told_in_range : (r : Round) → RoundFits r → told_in_range (round_told r) ≡ true
unfolding largest_quiesce
round_told_in_range r b =
    told_in_range_lem
    r.kind
    (largest_quiesce r)
    b.kind
    (most_below
    _
    time_most
    8
    (λ s h. cond_keeps (λ (n : ℕ). n ≤ time_most) (has_answered r s) _ 0 (b.figures s h).quiesce (omega arith)))

phase_none_fits : (k : Kind) → phase_fits k Phase.None ≡ true
phase_none_fits Kind.None = refl
phase_none_fits (Kind.Refresh q r) = refl
phase_none_fits Kind.Terminate = refl
phase_none_fits Kind.Prepare = refl

-- a kind that fits phase 1 fits phase 2
pub phase_two_fits : (k : Kind) (p : Phase) → phase_fits k p ≡ true → is_phase_one p ≡ true → phase_fits k Phase.Two ≡ true
phase_two_fits Kind.None Phase.None e h = absurd (false≢true h)
phase_two_fits Kind.None Phase.One e h = e
phase_two_fits Kind.None Phase.Two e h = e
phase_two_fits (Kind.Refresh q r) p e h = refl
phase_two_fits Kind.Terminate p e h = refl
phase_two_fits Kind.Prepare p e h = refl

pub with_answer_fits : (r : Round) (s : ℕ) (f : Figures) → RoundFits r → FiguresFit f → RoundFits (with_answer r s f)
with_answer_fits r s f b k =
    record {
      number = b.number;
      kind = b.kind;
      phase = b.phase;
      figures = λ i h. set_keeps_at FiguresFit r.figures s i f past_figures (b.figures i h) k;
    }

pub aborted_fits : (p : Passage) → PassageFits p → PassageFits (aborted_passage p)
aborted_fits p b = search (arith, phase_none_fits)
