mod FoundSides
