use Rattle.ts_forms.proofs.forms.Forms.+regex.Given as goal

-- a part has a smaller number
abbrev pub decreases-regex : goal.decreases-regex
decreases-regex l = l.i
