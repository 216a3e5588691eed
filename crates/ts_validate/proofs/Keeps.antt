-- What the decoder keeps, by the kind of the state and the tags of the live entries, over one letter.
use Rattle.std.specs.Prelude.{◌≡◌, ℕ, zero, suc, ◌+◌, ◌-◌, ◌≤◌, Bool, true, false, List, [], ◌∷◌, ◌++◌, Option, None, Some, refl}
use Rattle.std.proofs.Common.{sym, ◌∙◌, ap, subst, arith}
use Rattle.std.proofs.lemmas.Option.{none-some}
use Rattle.std.specs.Option.{option_to_list}
use Rattle.ts_base.specs.declared.range.Range.{Range}
use Rattle.ts_base.specs.declared.range.Kind.{Kind}
use Rattle.ts_base.specs.declared.range.Kind.TheVariants.{Held}
use Rattle.ts_regex.specs.Shape.{Shape}
use Rattle.ts_transducer.specs.declared.row.Phase.{Phase}
use Rattle.ts_transducer.specs.declared.row.Phase.TheVariants.{Out, OutR, OutA, MaybeB, MaybeA, Found, FoundE, Inside}
use Rattle.ts_pattern.specs.declared.plan.Tag.{Tag}
use Rattle.ts_pattern.specs.declared.plan.Tag.TheVariants.{Young, Due, InD, InC, Loose}
use Rattle.ts_transducer.specs.Keeps.{KindHolds}
use Rattle.ts_transducer.proofs.CallerLemmas.{IsFree, Typed, free_range}
use Rattle.ts_transducer.specs.Decode.{begins, ends_at, start_after, held_after}
use Rattle.ts_pattern.specs.Entries.{Entry}
use Rattle.ts_pattern.specs.OccurrenceList.{Place, e_range}
use Rattle.ts_pattern.specs.Closed.{younger, due_after, ind_after, inc_after, tag_after, first_tag}

abbrev pub first_of : Option Range → ℕ
first_of None = 0
first_of (Some r) = r.first

abbrev pub held_range : ℕ → ℕ → Option Place → Option Range
held_range a b None = None
held_range a b (Some x) = Some (e_range b a x)

abbrev pub first_mark : List (Entry ℕ Shape Tag) → ℕ
first_mark [] = 0
first_mark (e ∷ es) = e.mark

-- the ghost part of the step: which occurrence each range is
abbrev pub done_after : Phase → ℕ → List (Entry ℕ Shape Tag) → List Place → Option Place → List Place
done_after Out n sv ps x = ps
done_after OutR n sv ps x = ps
done_after OutA n sv ps x = ps ++ option_to_list x
done_after MaybeB n sv ps x = ps
done_after MaybeA n sv ps x = ps
done_after Found n sv ps x = ps
done_after FoundE n sv ps x = ps ++ record { start = first_mark sv; end = n } ∷ []
done_after Inside n sv ps x = ps

abbrev pub pair_after : Phase → ℕ → List (Entry ℕ Shape Tag) → Option Place → Option Place
pair_after Out n sv x = x
pair_after OutR n sv x = x
pair_after OutA n sv x = None
pair_after MaybeB n sv x = x
pair_after MaybeA n sv x = x
pair_after Found n sv x = Some (record { start = first_mark sv; end = n })
pair_after FoundE n sv x = x
pair_after Inside n sv x = Some (record { start = first_mark sv; end = n })

-- a pair is held exactly where a range is

no_range : (a b : ℕ) (x : Option Place) → held_range a b x ≡ None → x ≡ None
no_range a b None q = refl
no_range a b (Some x) q = absurd (none-some (e_range b a x) (sym q))

some_range : (a b : ℕ) (x : Option Place) (r : Range) → held_range a b x ≡ Some r → (y : Place) × (x ≡ Some y)
some_range a b None r q = absurd (none-some r q)
some_range a b (Some x) r q = (x, refl)

pub free_pair : (a b : ℕ) (k : Kind) (d : Option ℕ) (c : Option Range) (x : Option Place) → KindHolds k d c → c ≡ held_range a b x → IsFree k → x ≡ None
free_pair a b k d c x h e f = no_range a b x (sym e ∙ free_range k d c f h)

pub held_pair : (a b : ℕ) (k : Kind) (d : Option ℕ) (c : Option Range) (x : Option Place) → KindHolds k d c → c ≡ held_range a b x → k ≡ Held →
    (y : Place) × (x ≡ Some y)
held_pair a b k d c x h e q =
    let g = (subst (λ z. KindHolds z d c) q h).1 in
    some_range a b x g.0 (sym e ∙ g.1)

-- d is set after a letter only where the phase is MaybeB
pub pending_only : (f : Phase) (k k' : Kind) (n : ℕ) (d : Option ℕ) (x : Option Range) (y : ℕ) → Typed k f k' → KindHolds k d x → start_after f n d ≡ Some y →
    f ≡ MaybeB
pending_only Out k k' n d x y t h q = let g = subst (λ z. KindHolds z d x) t.0 h in absurd (none-some y (sym g.0 ∙ q))
pending_only OutR k k' n d x y t h q = absurd (none-some y q)
pending_only OutA k k' n d x y t h q = absurd (none-some y q)
pending_only MaybeB k k' n d x y t h q = refl
pending_only MaybeA k k' n d x y t h q = let g = subst (λ z. KindHolds z d x) t.0 h in absurd (none-some y (sym g.0 ∙ q))
pending_only Found k k' n d x y t h q = absurd (none-some y q)
pending_only FoundE k k' n d x y t h q = absurd (none-some y q)
pending_only Inside k k' n d x y t h q = let g = subst (λ z. KindHolds z d x) t.0 h in absurd (none-some y (sym g.0 ∙ q))

-- what a tag says, after k signs, of the start s
abbrev pub TagHolds : ℕ → ℕ → Option ℕ → Option Range → ℕ → Tag → Type 0
TagHolds k b d c s (Young m) = (1 ≤ m) × (s + b ≡ k + m)
TagHolds k b d c s Due = s + b ≡ k
TagHolds k b d c s InD = d ≡ Some (s + 1 + b)
TagHolds k b d c s InC = (z : ℕ) × (c ≡ Some (record { first = s + 1 + b; last = z }))
TagHolds k b d c s Loose = Unit {0}

young_step : (k b : ℕ) (d : Option ℕ) (c : Option Range) (s m : ℕ) → 1 ≤ m → s + b ≡ k + m → TagHolds (k + 1) b d c s (younger m)
young_step k b d c s zero p q = absurd (omega (arith, p))
young_step k b d c s (suc zero) p q = q
young_step k b d c s (suc (suc m)) p q = (omega arith, omega arith)

due_step : (f : Phase) (free : Bool) (k b a : ℕ) (d : Option ℕ) (c : Option Range) (s : ℕ) → (free ≡ true → d ≡ None) → s + b ≡ k →
    TagHolds (k + 1) b (start_after f (k + 1) d) (held_after f a (k + 1) d c) s (due_after f free)
due_step Out free k b a d c s g q = tt
due_step OutR free k b a d c s g q = tt
due_step OutA free k b a d c s g q = tt
due_step MaybeA free k b a d c s g q = tt
due_step FoundE free k b a d c s g q = tt
due_step Inside free k b a d c s g q = tt
due_step MaybeB false k b a d c s g q = tt
due_step MaybeB true k b a d c s g q = ap (λ z. Some (begins (k + 1) z)) (g refl) ∙ ap (λ z. Some z) (let x : k + 1 ≡ s + 1 + b = omega arith in x)
due_step Found false k b a d c s g q = tt
due_step Found true k b a d c s g q = (
  k + 1 + 1 - a,
  ap (λ z. Some (record { first = begins (k + 1) z; last = k + 1 + 1 - a })) (g refl)
      ∙ ap (λ z. Some (record { first = z; last = k + 1 + 1 - a })) (let x : k + 1 ≡ s + 1 + b = omega arith in x),
)

ind_step : (f : Phase) (k b a : ℕ) (d : Option ℕ) (c : Option Range) (s : ℕ) → d ≡ Some (s + 1 + b) →
    TagHolds (k + 1) b (start_after f (k + 1) d) (held_after f a (k + 1) d c) s (ind_after f)
ind_step Out k b a d c s q = tt
ind_step OutR k b a d c s q = tt
ind_step OutA k b a d c s q = tt
ind_step MaybeB k b a d c s q = ap (λ z. Some (begins (k + 1) z)) q
ind_step MaybeA k b a d c s q = tt
ind_step Found k b a d c s q = (k + 1 + 1 - a, ap (λ z. Some (record { first = begins (k + 1) z; last = k + 1 + 1 - a })) q)
ind_step FoundE k b a d c s q = tt
ind_step Inside k b a d c s q = tt

inc_step : (f : Phase) (k b a : ℕ) (d : Option ℕ) (c : Option Range) (s : ℕ) → (f ≡ Found → c ≡ None) → (z : ℕ) →
    c ≡ Some (record { first = s + 1 + b; last = z }) → TagHolds (k + 1) b (start_after f (k + 1) d) (held_after f a (k + 1) d c) s (inc_after f)
inc_step Out k b a d c s g z q = (z, q)
inc_step OutR k b a d c s g z q = (z, q)
inc_step OutA k b a d c s g z q = tt
inc_step MaybeB k b a d c s g z q = (z, q)
inc_step MaybeA k b a d c s g z q = (z, q)
inc_step Found k b a d c s g z q = absurd (none-some (record { first = s + 1 + b; last = z }) (sym (g refl) ∙ q))
inc_step FoundE k b a d c s g z q = (z, q)
inc_step Inside k b a d c s g z q = (k + 1 + 1 - a, ap (λ y. ends_at (k + 1 + 1 - a) y) q)

pub tag_step : (f : Phase) (free : Bool) (k b a : ℕ) (d : Option ℕ) (c : Option Range) (s : ℕ) (g : Tag) → (free ≡ true → d ≡ None) → (f ≡ Found → c ≡ None) →
    TagHolds k b d c s g → TagHolds (k + 1) b (start_after f (k + 1) d) (held_after f a (k + 1) d c) s (tag_after f free g)
tag_step f free k b a d c s (Young m) u v h = young_step k b (start_after f (k + 1) d) (held_after f a (k + 1) d c) s m h.0 h.1
tag_step f free k b a d c s Due u v h = due_step f free k b a d c s u h
tag_step f free k b a d c s InD u v h = ind_step f k b a d c s h
tag_step f free k b a d c s InC u v h = inc_step f k b a d c s v h.0 h.1
tag_step f free k b a d c s Loose u v h = tt

pub first_tag_holds : (k b : ℕ) (d : Option ℕ) (c : Option Range) → TagHolds k b d c k (first_tag b)
first_tag_holds k zero d c = omega arith
first_tag_holds k (suc b) d c = (omega arith, refl)
