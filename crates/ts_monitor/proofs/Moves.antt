-- All automata make the move of two neighbours, one place after the other.
use Rattle.std.proofs.Common.{set, ◌≡◌, ℕ, zero, suc, ◌+◌, ◌<◌, ℤ, Some, List, [], ◌∷◌, ◌++◌, length, take, drop, map, refl, sym, ◌∙◌, ap, subst, arith, append_assoc, get_or}
use Rattle.std.specs.Prelude.{slice_get, IsTrue}
use Rattle.ts_base.specs.declared.ext.Ext.{Ext}
use Rattle.ts_automaton.specs.Body.{Body}
use Rattle.ts_automaton.specs.Typing.{is_automaton}
use Rattle.ts_automaton.specs.AutomatonRun.{Standing, Stands, start_of, step_of}
use Rattle.ts_automaton.proofs.RunLaws.{kinds_are_kept}
use Rattle.ts_automaton.specs.declared.regs.At.{At}
use Rattle.ts_automaton.specs.AutomatonRun.{standing_of}
use Rattle.ts_glue.specs.declared.machine.Machine.{Machine}
use Rattle.ts_glue.specs.Machines.{forward_of}
use Rattle.ts_pattern.specs.declared.term.Term.{Term}
use Rattle.std.proofs.lemmas.List.{length-map, map-append, map-set}
use Rattle.std.proofs.lemmas.Option.{slice_get_read}
use Rattle.ts_compile.specs.Compiled.{HaveBodies, machine_body}
use Rattle.ts_compile.proofs.Tables.{body_automaton}
use Rattle.ts_monitor.specs.Monitors.{AllStand, moved, moved_after}

-- the first k automata have moved, the others stand where they stood
abbrev pub moved_to : ℕ → List Body → List (Standing Ext) → ℤ → ℤ → List (Standing Ext)
moved_to k bs ss x y = take k (moved bs ss x y) ++ drop k ss

-- the next automaton stands, and moves
pub next_stands : (bs : List Body) (ss : List (Standing Ext)) (x y : ℤ) (k : ℕ) (b : Body) (s : Standing Ext) → AllStand bs ss →
    slice_get bs k ≡ Some b → slice_get (moved_to k bs ss x y) k ≡ Some s → Stands b s
next_stands [] ss x y k b s all at here = cc
next_stands (c ∷ bs) [] x y k b s all at here = absurd all
next_stands (c ∷ bs) (t ∷ ss) x y zero b s all at here =
    let same : c ≡ b = cc in
    let stands : t ≡ s = cc in
    subst (λ z. Stands z s) same (subst (Stands c) stands all.0)
next_stands (c ∷ bs) (t ∷ ss) x y (suc k) b s all at here = next_stands bs ss x y k b s all.1 at here

pub next_moved : (bs : List Body) (ss : List (Standing Ext)) (x y : ℤ) (k : ℕ) (b : Body) (s : Standing Ext) → AllStand bs ss →
    slice_get bs k ≡ Some b → slice_get (moved_to k bs ss x y) k ≡ Some s →
    set (moved_to k bs ss x y) k (step_of b s x y) ≡ moved_to (k + 1) bs ss x y
next_moved [] ss x y k b s all at here = cc
next_moved (c ∷ bs) [] x y k b s all at here = absurd all
next_moved (c ∷ bs) (t ∷ ss) x y zero b s all at here =
    let same : c ≡ b = cc in
    let stands : t ≡ s = cc in
    ap (λ z. z ∷ ss) (ap (λ z. step_of z s x y) (sym same) ∙ ap (λ z. step_of c z x y) (sym stands))
next_moved (c ∷ bs) (t ∷ ss) x y (suc k) b s all at here =
    let more : suc (k + 1) ≡ suc k + 1 = omega arith in
    ap (◌∷◌ (step_of c t x y)) (next_moved bs ss x y k b s all.1 at here) ∙ ap (λ n. moved_to n (c ∷ bs) (t ∷ ss) x y) more

-- as many stand as there are automata
pub standing_count : (bs : List Body) (ss : List (Standing Ext)) → AllStand bs ss → length ss ≡ length bs
standing_count [] [] all = refl
standing_count [] (s ∷ ss) all = absurd all
standing_count (b ∷ bs) [] all = absurd all
standing_count (b ∷ bs) (s ∷ ss) all = ap suc (standing_count bs ss all.1)

-- in the end all automata have moved
pub all_moved : (bs : List Body) (ss : List (Standing Ext)) (x y : ℤ) → AllStand bs ss → moved_to (length bs) bs ss x y ≡ moved bs ss x y
all_moved [] [] x y all = refl
all_moved [] (s ∷ ss) x y all = absurd all
all_moved (b ∷ bs) [] x y all = absurd all
all_moved (b ∷ bs) (s ∷ ss) x y all = ap (◌∷◌ (step_of b s x y)) (all_moved bs ss x y all.1)

-- no automaton is lost on the way
pub moved_count : (bs : List Body) (ss : List (Standing Ext)) (x y : ℤ) (k : ℕ) → AllStand bs ss → length (moved_to k bs ss x y) ≡ length bs
moved_count [] [] x y zero all = refl
moved_count [] [] x y (suc k) all = refl
moved_count [] (s ∷ ss) x y k all = absurd all
moved_count (b ∷ bs) [] x y k all = absurd all
moved_count (b ∷ bs) (s ∷ ss) x y zero all = ap suc (standing_count bs ss all.1)
moved_count (b ∷ bs) (s ∷ ss) x y (suc k) all = ap suc (moved_count bs ss x y k all.1)

-- the body of a term keeps the rules of automata
is_automaton_of : (t : Term) → IsTrue (is_automaton (machine_body t))
is_automaton_of t = body_automaton t.pattern t.pattern t.aggregator t.feature

-- the automata of terms stand at the start, and where they stand they stand after a move
pub starts_stand : (ts : List Term) → AllStand (map machine_body ts) (map start_of (map machine_body ts))
starts_stand [] = tt
starts_stand (t ∷ ts) = ((kinds_are_kept (machine_body t) (is_automaton_of t)).start, starts_stand ts)

pub moved_stand : (ts : List Term) (ss : List (Standing Ext)) (x y : ℤ) → AllStand (map machine_body ts) ss →
    AllStand (map machine_body ts) (moved (map machine_body ts) ss x y)
moved_stand [] ss x y all = tt
moved_stand (t ∷ ts) [] x y all = absurd all
moved_stand (t ∷ ts) (s ∷ ss) x y all =
    ((kinds_are_kept (machine_body t) (is_automaton_of t)).step s all.0 x y, moved_stand ts ss x y all.1)

pub after_stand : (n : ℕ) (ts : List Term) (ss : List (Standing Ext)) (x y : ℤ) → AllStand (map machine_body ts) ss →
    AllStand (map machine_body ts) (moved_after n (map machine_body ts) ss x y)
after_stand zero ts ss x y all = all
after_stand (suc n) ts ss x y all = moved_stand ts ss x y all

-- the automaton at a place stands
pub stands_there : (bs : List Body) (ss : List (Standing Ext)) (k : ℕ) (b : Body) (s : Standing Ext) → AllStand bs ss →
    slice_get bs k ≡ Some b → slice_get ss k ≡ Some s → Stands b s
stands_there [] ss k b s all at here = cc
stands_there (c ∷ bs) [] k b s all at here = absurd all
stands_there (c ∷ bs) (t ∷ ss) zero b s all at here =
    let same : c ≡ b = cc in
    let stands : t ≡ s = cc in
    subst (λ z. Stands z s) same (subst (Stands c) stands all.0)
stands_there (c ∷ bs) (t ∷ ss) (suc k) b s all at here = stands_there bs ss k b s all.1 at here

-- what an element's view is, by place
pub seen : {A B : Type 0} (f : A → B) (xs : List A) (k : ℕ) (x : A) → slice_get xs k ≡ Some x → slice_get (map f xs) k ≡ Some (f x)
seen f [] k x e = cc
seen f (y ∷ ys) zero x e = let same : y ≡ x = cc in ap (λ z. Some (f z)) same
seen f (y ∷ ys) (suc k) x e = seen f ys k x e

-- one more of a list is taken
pub one_more : {A : Type 0} (all made : List A) (k : ℕ) (x : A) → slice_get all k ≡ Some x → made ++ drop k all ≡ all →
    (made ++ x ∷ []) ++ drop (k + 1) all ≡ all
one_more all made k x e before = append_assoc made (x ∷ []) (drop (k + 1) all) ∙ ap (λ z. made ++ z) (sym (drop_at all k x e)) ∙ before
  where
    drop_at : {A : Type 0} (xs : List A) (k : ℕ) (x : A) → slice_get xs k ≡ Some x → drop k xs ≡ x ∷ drop (k + 1) xs
    drop_at [] k x e = cc
    drop_at (y ∷ ys) zero x e = let same : y ≡ x = cc in ap (λ z. z ∷ ys) same
    drop_at (y ∷ ys) (suc k) x e = let more : suc k + 1 ≡ suc (k + 1) = omega arith in drop_at ys k x e ∙ ap (λ n. x ∷ drop n (y ∷ ys)) (sym more)

-- the run of each machine's automaton, in the midst of the loop
module _ (ms : List Machine) (old now : List At) (x y : ℤ) (k : ℕ) where
  abbrev pub InMidst : Type 0
  InMidst = map standing_of now ≡ moved_to k (map forward_of ms) (map standing_of old) x y

  pub same_count : AllStand (map forward_of ms) (map standing_of old) → InMidst → length now ≡ length ms
  same_count all is =
      sym (length-map now standing_of) ∙ ap length is ∙ moved_count (map forward_of ms) (map standing_of old) x y k all ∙ length-map ms forward_of

  pub has_room : AllStand (map forward_of ms) (map standing_of old) → InMidst → k < length ms → k < length now
  has_room all is below = subst (λ n. k < n) (sym (same_count all is)) below

  module _ (m : Machine) (a : At) (here : slice_get ms k ≡ Some m) (there : slice_get now k ≡ Some a) where
    found : InMidst → slice_get (moved_to k (map forward_of ms) (map standing_of old) x y) k ≡ Some (standing_of a)
    found is = subst (λ z. slice_get z k ≡ Some (standing_of a)) is (seen standing_of now k a there)

    pub run_stands : AllStand (map forward_of ms) (map standing_of old) → InMidst → Stands (forward_of m) (standing_of a)
    run_stands all is =
        next_stands (map forward_of ms) (map standing_of old) x y k (forward_of m) (standing_of a) all (seen forward_of ms k m here) (found is)

    pub run_moved : AllStand (map forward_of ms) (map standing_of old) → InMidst → (b : At) → standing_of b ≡ step_of (forward_of m) (standing_of a) x y →
        map standing_of (set now k b) ≡ moved_to (k + 1) (map forward_of ms) (map standing_of old) x y
    run_moved all is b step =
        map-set standing_of now k b
        ∙ ap (λ z. set z k (standing_of b)) is
        ∙ ap (set (moved_to k (map forward_of ms) (map standing_of old) x y) k) step
        ∙ next_moved (map forward_of ms) (map standing_of old) x y k (forward_of m) (standing_of a) all (seen forward_of ms k m here) (found is)

-- the run of each machine's automaton, at the end of the loop
pub run_ended : (ms : List Machine) (old now : List At) (x y : ℤ) (k : ℕ) → AllStand (map forward_of ms) (map standing_of old) →
    InMidst ms old now x y k → k ≡ length ms → map standing_of now ≡ moved (map forward_of ms) (map standing_of old) x y
run_ended ms old now x y k all is end =
    is
    ∙ ap (λ n. moved_to n (map forward_of ms) (map standing_of old) x y) (end ∙ sym (length-map ms forward_of))
    ∙ all_moved (map forward_of ms) (map standing_of old) x y all

-- one more automaton is started
pub start_taken : (ms : List Machine) (made more : List At) (k : ℕ) (m : Machine) (a : At) → slice_get ms k ≡ Some m →
    standing_of a ≡ start_of (forward_of m) → more ≡ made ++ a ∷ [] →
    map standing_of made ++ drop k (map start_of (map forward_of ms)) ≡ map start_of (map forward_of ms) →
    map standing_of more ++ drop (k + 1) (map start_of (map forward_of ms)) ≡ map start_of (map forward_of ms)
start_taken ms made more k m a here start pushed before =
    let all = map start_of (map forward_of ms) in
    ap (λ z. map standing_of z ++ drop (k + 1) all) pushed
    ∙ ap (λ z. z ++ drop (k + 1) all) (map-append standing_of made (a ∷ []))
    ∙ ap (λ z. (map standing_of made ++ z ∷ []) ++ drop (k + 1) all) start
    ∙ one_more all (map standing_of made) k (start_of (forward_of m)) (seen start_of (map forward_of ms) k (forward_of m) (seen forward_of ms k m here)) before

-- a machine for each term
pub as_many : (ts : List Term) (ms : List Machine) → HaveBodies ms ts → length ms ≡ length ts
as_many ts ms bodies = sym (length-map ms forward_of) ∙ ap length bodies ∙ length-map ts machine_body

-- the machine and the run at a term's place
module _ (ts : List Term) (ms : List Machine) (runs : List At) (bodies : HaveBodies ms ts) (all : AllStand (map machine_body ts) (map standing_of runs))
    (k : ℕ) (below : k < length ts) where
  pub run_there : k < length runs
  run_there =
      subst (λ n. k < n)
      (sym (sym (length-map runs standing_of) ∙ standing_count (map machine_body ts) (map standing_of runs) all ∙ length-map ts machine_body)) below

  pub machine_there : (m : Machine) → m ≡ get_or ms k m → slice_get (map machine_body ts) k ≡ Some (forward_of m)
  machine_there m is =
      subst (λ bs. slice_get bs k ≡ Some (forward_of m)) bodies
      (seen forward_of ms k m (slice_get_read ms (length ms) k m refl (subst (λ n. k < n) (sym (as_many ts ms bodies)) below) is))

  pub standing_there : (a : At) → a ≡ get_or runs k a → slice_get (map standing_of runs) k ≡ Some (standing_of a)
  standing_there a is = seen standing_of runs k a (slice_get_read runs (length runs) k a refl run_there is)
