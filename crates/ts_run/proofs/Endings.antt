-- How a call ends that takes its whole input, by what came of reading it.
use Rattle.std.proofs.Common.{◌≡◌, ℕ, ◌+◌, ◌≤◌, inl, inr, Option, Some, None, List, length, replicate, refl, sym, ◌∙◌, subst, arith}
use Rattle.std.specs.Prelude.{IfSome}
use Rattle.std.proofs.lemmas.List.{length-replicate}
use Rattle.ts_base.specs.Outside.{AtEnd, GaveAtMost, HasMoreThan, put_back}
use Rattle.ts_base.proofs.Pieces.{gave_bytes}
use Rattle.ts_run.specs.Refusals.{refused_length}
use Rattle.ts_run.specs.Endings.{OfBytes, RepliesWithin, Responds, WholeEnds, WholeTakes}
use Rattle.ts_run.specs.Reply.{ComesOfInput, Ends, EndsWritten, Reply}
use Rattle.ts_run.specs.declared.status.Status.{Status}
use Rattle.ts_run.specs.declared.status.Status.TheVariants.{Refused, ReadFault, Memory}

-- a reply that was written, whose status is given, or a write that failed

pub no_fault : (status given : Status) → (EndsWritten status → status ≡ given) → ComesOfInput given → status ≡ ReadFault → ⊥
no_fault status given written input e =
    let same : given ≡ ReadFault = sym (written (subst EndsWritten (sym e) tt)) ∙ e in
    subst ComesOfInput same input

-- what was read

module _ (limit : ℕ) (left left_now : Option (List ℕ)) (status : Status) where
  pub takes_all : (bytes : List ℕ) → GaveAtMost (limit + 1) left left_now → length bytes ≤ limit → left ≡ put_back bytes left_now → AtEnd left_now →
      WholeTakes limit left left_now status
  takes_all bytes most few gave end = record {
    most = most;
    whole = λ h. inl (end, gave_bytes limit bytes left left_now few gave);
    memory = λ e. gave_bytes limit bytes left left_now few gave;
  }

pub takes_want : (limit : ℕ) (left left_now : Option (List ℕ)) → GaveAtMost (limit + 1) left left_now → GaveAtMost limit left left_now →
    WholeTakes limit left left_now Memory
takes_want limit left left_now most want = record { most = most; whole = λ h. absurd h; memory = λ e. want }

-- what was written

module _ (limit : ℕ) (Is : List ℕ → Reply → Type 0) (faults faults_now : ℕ) (before after : Option (List ℕ)) (status : Status) where
  abbrev Replied : Option (List ℕ) → Type 0
  Replied left = OfBytes left (λ bytes. Responds (RepliesWithin limit Is bytes) faults faults_now before after status)

  over_reply : (left : Option (List ℕ)) → faults_now ≡ faults → HasMoreThan limit left → Ends refused_length before after status → Replied left
  over_reply None calm more ends =
      let zeros : List ℕ = replicate (limit + 1) 0 in
      let long : length zeros ≡ limit + 1 = length-replicate (limit + 1) _ in
      (zeros, inl (calm, inr (refused_length, inr (omega (arith, long), refl), ends)))
  over_reply (Some bytes) calm more ends = inl (calm, inr (refused_length, inr (more, refl), ends))

  -- there were more bytes than the command reads
  pub ends_over : (left : Option (List ℕ)) → faults_now ≡ faults → HasMoreThan limit left → Ends refused_length before after status →
      (EndsWritten status → status ≡ Refused) → WholeEnds limit Is left faults faults_now before after status
  ends_over left calm more ends written = record {
    reply = over_reply left calm more ends;
    fault = λ e. absurd (no_fault status Refused written tt e);
  }

  given_reply : (left : Option (List ℕ)) (bytes : List ℕ) (r : Reply) → faults_now ≡ faults → IfSome left (λ told. told ≡ bytes) → length bytes ≤ limit →
      Is bytes r → Ends r before after status → Replied left
  given_reply None bytes r calm told few is ends = (bytes, inl (calm, inr (r, inl (few, is), ends)))
  given_reply (Some found) bytes r calm told few is ends =
      subst (λ (xs : List ℕ). Responds (RepliesWithin limit Is xs) faults faults_now before after status) (sym told)
      (inl (calm, inr (r, inl (few, is), ends)))

  -- the command replied to the bytes
  pub ends_given : (left : Option (List ℕ)) (bytes : List ℕ) (r : Reply) → faults_now ≡ faults → IfSome left (λ told. told ≡ bytes) → length bytes ≤ limit →
      Is bytes r → ComesOfInput r.status →
      (EndsWritten status → status ≡ r.status) → Ends r before after status → WholeEnds limit Is left faults faults_now before after status
  ends_given left bytes r calm told few is input written ends = record {
    reply = given_reply left bytes r calm told few is ends;
    fault = λ e. absurd (no_fault status r.status written input e);
  }
