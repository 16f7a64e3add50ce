mod BranchPatterns
mod SitesMatched
