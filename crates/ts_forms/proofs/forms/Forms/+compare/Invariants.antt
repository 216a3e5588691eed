use Rattle.ts_forms.proofs.forms.Forms.+compare.Given as goal

-- a part has a smaller number
abbrev pub decreases-compare : goal.decreases-compare
decreases-compare l = l.i
