-- What a piece of a stream leads to, by what was put after the text and what was written of it.
use Rattle.std.proofs.Common.{◌≡◌, ℕ, inl, Option, Some, None, List, [], ◌++◌, take, refl, sym, ◌∙◌, ap, subst, append-nil}
use Rattle.ts_base.specs.Outside.{Prefix, taken_more}
use Rattle.ts_run.specs.LiveEndings.{EndsInLines}
use Rattle.ts_run.specs.LiveSteps.{EndsBehind, Stops, TakesDue}
use Rattle.ts_run.specs.Reply.{ComesOfInput, Ends, EndsWritten, Reply}
use Rattle.ts_run.specs.Streams.{AddsDue, AddsLines, AddsReply, Due, IsFront}
use Rattle.ts_run.specs.declared.status.Status.{Status}
use Rattle.ts_run.specs.declared.status.Status.TheVariants.{Done, No, Refused, Budget, ReadFault, WriteFault, Memory}
use Rattle.ts_run.proofs.StreamLaws.{front_behind, front_of, front_on}

pub in_lines : (r : Reply) (before after : Option (List ℕ)) (status : Status) → Ends r before after status → (status ≡ Memory → ⊥) →
    EndsInLines r before after status
in_lines r before after Done h some = h
in_lines r before after No h some = h
in_lines r before after Refused h some = h
in_lines r before after Budget h some = h
in_lines r before after ReadFault h some = h
in_lines r before after WriteFault h some = h
in_lines r before after Memory h some = absurd (some refl)

-- a status that comes of the input may be written, and isn't that of a read that failed
pub may_be_written : (status : Status) → ComesOfInput status → EndsWritten status
may_be_written Done h = tt
may_be_written No h = tt
may_be_written Refused h = tt
may_be_written Budget h = tt
may_be_written ReadFault h = tt
may_be_written WriteFault h = absurd h
may_be_written Memory h = absurd h

pub no_read : (given status : Status) → ComesOfInput given → (EndsWritten status → status ≡ given) → status ≡ ReadFault → ⊥
no_read given status input written e = subst ComesOfInput (sym (written (subst EndsWritten (sym e) tt)) ∙ e) input

module _ (due : List ℕ → Due) (bytes piece cleared text : List ℕ) (before after : Option (List ℕ)) (none : cleared ≡ []) where
  -- all that the piece adds was put after the text

  module _ (h : AddsDue due bytes piece cleared text) where
    put : (due (bytes ++ piece)).text ≡ (due bytes).text ++ text
    put = h.2 ∙ ap (λ (t : List ℕ). (due bytes).text ++ t) (sym (h.1 ∙ ap (λ (t : List ℕ). t ++ h.0) none))

    pub stops_write : Prefix text before after → Stops due bytes piece before after WriteFault
    stops_write p = (
      take p.0 text,
      subst (λ (t : List ℕ). IsFront ((due bytes).text ++ take p.0 text) t) (sym put) (front_behind (due bytes).text (take p.0 text) text (front_of p.0 text)),
      tt,
      p.2,
    )

    takes : after ≡ taken_more before text → TakesDue due bytes piece before after
    takes took = (text, put, took)

    pub stops_ended : (given status : Status) → (due (bytes ++ piece)).ended ≡ Some given → Ends (record { text = text; status = given }) before after status →
        (status ≡ Memory → ⊥) → Stops due bytes piece before after status
    stops_ended given Done ended h some = (takes h.0, ended ∙ ap Some h.1)
    stops_ended given No ended h some = (takes h.0, ended ∙ ap Some h.1)
    stops_ended given Refused ended h some = (takes h.0, ended ∙ ap Some h.1)
    stops_ended given Budget ended h some = (takes h.0, ended ∙ ap Some h.1)
    stops_ended given ReadFault ended h some = (takes h.0, ended ∙ ap Some h.1)
    stops_ended given WriteFault ended h some = stops_write h
    stops_ended given Memory ended h some = absurd (some refl)

  -- whole lines of what the piece adds were put after the text

  module _ (h : AddsLines due bytes piece cleared text) where
    same : text ≡ h.more
    same = h.put ∙ ap (λ (t : List ℕ). t ++ h.more) none

    owed : IsFront ((due bytes).text ++ text) (due (bytes ++ piece)).text
    owed = subst (λ (t : List ℕ). IsFront ((due bytes).text ++ t) (due (bytes ++ piece)).text) (sym same) h.owed

    pub stops_write_lines : Prefix text before after → Stops due bytes piece before after WriteFault
    stops_write_lines p = (
      take p.0 text,
      front_on ((due bytes).text ++ take p.0 text) ((due bytes).text ++ text) (due (bytes ++ piece)).text
          (front_behind (due bytes).text (take p.0 text) text (front_of p.0 text)) owed,
      tt,
      p.2,
    )

-- the end of the input

pub ends_given : (due : Due) (reply : Reply) (cleared text : List ℕ) (before after : Option (List ℕ)) (given status : Status) → cleared ≡ [] →
    AddsReply due reply cleared text given → Ends (record { text = text; status = given }) before after status → (status ≡ Memory → ⊥) →
    EndsBehind due reply before after status
ends_given due reply cleared text before after given status none h ends some = (
  record { text = text; status = given },
  h.2 ∙ ap (λ (t : List ℕ). record { text = due.text ++ t; status = given }) (sym (h.1 ∙ ap (λ (t : List ℕ). t ++ h.0) none)),
  in_lines (record { text = text; status = given }) before after status ends some,
)

kept : (before : Option (List ℕ)) → before ≡ taken_more before []
kept None = refl
kept (Some t) = ap Some (sym (append-nil t))

pub ends_wanting : (due : Due) (reply : Reply) (before : Option (List ℕ)) → IsFront due.text reply.text → EndsBehind due reply before before Memory
ends_wanting due reply before h = (
  record { text = h.0; status = reply.status },
  ap (λ (t : List ℕ). record { text = t; status = reply.status }) h.1,
  ([], (_, refl), inl refl, kept before),
)

-- what a `finish` gives, whose status comes of the input
pub given_input : (due : Due) (reply : Reply) (cleared text : List ℕ) (given : Status) → AddsReply due reply cleared text given → ComesOfInput reply.status →
    ComesOfInput given
given_input due reply cleared text given h input = subst (λ (r : Reply). ComesOfInput r.status) h.2 input
